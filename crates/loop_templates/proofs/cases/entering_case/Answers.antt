-- The case is the definition's.
use Rattle.std.proofs.Common.{◌≡◌, ◌∙◌, [], ◌∷◌}
use Rattle.std.proofs.lemmas.Result.{IfOk-weaker}
use Rattle.loop_templates.specs.Cases.{entering_case, with_rows}
use Rattle.loop_templates.proofs.Cased.{entering_stands}
use Rattle.loop_templates.proofs.Made.{entering_is}
use Rattle.loop_templates.proofs.cases.entering_case.Goals as goal

pub bare_case-requires-clause-can : goal.bare_case-requires-clause-can
bare_case-requires-clause-can c =
    entering_stands c.args.frame.now c.args.state.now c.as_slice.result.now (c.as_slice.ensures.value ∙ c.in_ok-bones.ensures) c.requires.state

pub returns : goal.returns
returns c =
    IfOk-weaker c.with_rows.result (λ piece. piece ≡ with_rows c.args.frame.now (c.args.state.now ∷ []) c.in_ok-piece.piece)
    (λ piece. piece ≡ entering_case c.args.frame.now c.args.state.now)
    (λ piece is. entering_is c.args.frame.now c.args.state.now c.as_slice.result.now c.in_ok-piece.piece piece
    (c.as_slice.ensures.value ∙ c.in_ok-bones.ensures) c.in_ok-piece.ensures.piece is)
    c.with_rows.ensures
