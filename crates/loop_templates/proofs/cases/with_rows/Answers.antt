-- The rows are those of the definition.
use Rattle.std.proofs.Common.{◌≡◌, ap, subst, ◌∙◌, List, map}
use Rattle.lin_facts.specs.declared.row.Row.{Row}
use Rattle.sym_state.specs.declared.piece.Piece.{Piece}
use Rattle.loop_templates.specs.Cases.{Frame, with_rows}
use Rattle.loop_templates.proofs.cases.with_rows.Goals as goal

pub returns : goal.returns
returns c =
    let after : Piece = record c.args.piece { rows = c.from_vec.result } in
    subst (λ (frame : Frame). after ≡ with_rows frame (map (λ state. state.now) c.args.states.now) c.args.piece) c.frame.view_is
    (ap (λ (rows : List Row). record c.args.piece { rows = rows }) (c.from_vec.ensures ∙ c.in_ok-rows.ensures.rows))
