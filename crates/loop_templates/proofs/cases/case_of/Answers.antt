-- The case is the definition's.
use Rattle.std.proofs.Common.{◌≡◌, ap, ◌∙◌, map}
use Rattle.std.proofs.lemmas.Result.{IfOk-weaker}
use Rattle.loop_templates.specs.Cases.{case_of, with_rows}
use Rattle.loop_templates.proofs.Cased.{those_bounded}
use Rattle.loop_templates.proofs.Made.{case_is}
use Rattle.loop_templates.proofs.cases.case_of.Goals as goal

pub with_rows-requires-clause-states : goal.with_rows-requires-clause-states
with_rows-requires-clause-states c =
    those_bounded c.args.frame.now.style c.args.bones.now c.args.states.now _
    (ap (map (λ state. state.now)) c.as_slice-2.ensures.value ∙ c.in_ok-those.ensures) c.requires.states

pub returns : goal.returns
returns c =
    let common = map (λ state. state.now) c.as_slice.result.now in
    let those = map (λ state. state.now) c.as_slice-2.result.now in
    IfOk-weaker c.with_rows.result (λ piece. piece ≡ with_rows c.args.frame.now those c.in_ok-piece.piece)
    (λ piece. piece ≡ case_of c.args.frame.now c.args.states.now c.args.bones.now)
    (λ piece is. case_is c.args.frame.now c.args.states.now c.args.bones.now common those c.in_ok-piece.piece piece c.in_ok-piece.ensures.piece
    (ap (map (λ state. state.now)) c.as_slice.ensures.value ∙ (c.in_ok-common.ensures ∙ ap (λ frame. frame.entering) c.frame.view_is))
    (ap (map (λ state. state.now)) c.as_slice-2.ensures.value ∙ c.in_ok-those.ensures) is)
    c.with_rows.ensures
