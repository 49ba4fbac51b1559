-- The steps of the rows so far, and of those that are left.
use Rattle.std.proofs.Common.{◌≡◌, ◌++◌, drop, map}
use Rattle.sym_state.specs.Entailing.{match_of}
use Rattle.sym_state.specs.Renaming.{row_renamed}
use Rattle.straight_hints.specs.Found.{piece_hints, step_found}
use Rattle.straight_hints.proofs.pieces.row_steps.Given as goal

abbrev pub invariant-loop-row : goal.invariant-loop-row
invariant-loop-row l =
    l.hints.items
    ++ map (λ row. step_found l.at.finding l.at.cond.now l.at.state.now (row_renamed (match_of l.at.state.now l.piece 0) row)) (drop l.row-index l.row-items)
    ≡ piece_hints l.at.finding l.at.cond.now l.at.state.now l.piece
