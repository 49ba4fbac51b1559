-- The rows are those of the piece that is moved to the next entry.
use Rattle.std.proofs.Common.{List, ap, sym, subst, ◌∙◌}
use Rattle.std.specs.List.{All}
use Rattle.lin_facts.specs.declared.row.Row.{Row}
use Rattle.sym_state.specs.Positions.{AtNext}
use Rattle.sym_state.specs.WellMade.{IsBounded}
use Rattle.sym_state.specs.declared.piece.Piece.{Piece}
use Rattle.command_flow.proofs.LeftPieces.{ends_match}
use Rattle.command_flow.proofs.Shaped.{rows_bounded}
use Rattle.command_flow.proofs.kept.rows_left_by.Goals as goal

pub rows_left-requires-clause-states : goal.rows_left-requires-clause-states
rows_left-requires-clause-states c = ends_match c.args.at.now.style.now c.args.visit.now c.args.states.now c.requires.visit.bare c.requires.states

pub rows_left-requires-clause-rows : goal.rows_left-requires-clause-rows
rows_left-requires-clause-rows c =
    subst (λ (rows : List Row). All IsBounded rows) (sym (c.as_slice.ensures ∙ ap (λ (piece : Piece). piece.rows) c.in_ok-moved.ensures))
    (rows_bounded AtNext c.args.visit.now.rows c.requires.visit.ready.fit.rows c.requires.visit.movable)

pub rows_left-requires-clause-moved : goal.rows_left-requires-clause-moved
rows_left-requires-clause-moved c = c.as_slice.ensures ∙ ap (λ (piece : Piece). piece.rows) c.in_ok-moved.ensures
