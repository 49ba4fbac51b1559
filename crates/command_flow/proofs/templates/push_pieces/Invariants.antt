-- The steps of the pieces so far, and of those that are left.
use Rattle.std.proofs.Common.{◌≡◌, ◌++◌, drop}
use Rattle.command_flow.specs.Templates.{pieces_hints}
use Rattle.command_flow.proofs.templates.push_pieces.Given as goal

abbrev pub invariant-loop-piece : goal.invariant-loop-piece
invariant-loop-piece l = l.hints.items ++ pieces_hints l.at.cond.now (drop l.piece-index l.pieces) l.state
    ≡ l.initial.hints.items ++ pieces_hints l.at.cond.now l.pieces l.state
