-- The case is the definition's, and such a case stands in a certificate.
use Rattle.std.proofs.Common.{◌≡◌, ap, ◌∙◌, map}
use Rattle.std.proofs.lemmas.Result.{IfOk-weaker}
use Rattle.loop_templates.specs.Candidates.{IsCase}
use Rattle.loop_templates.specs.Cases.{with_rows}
use Rattle.loop_templates.specs.Visits.{common_case}
use Rattle.loop_templates.proofs.Made.{common_is}
use Rattle.loop_templates.proofs.Standing.{common_is_case}
use Rattle.loop_templates.proofs.visits.common_case.Goals as goal

pub returns-clause-case : goal.returns-clause-case
returns-clause-case c =
    let common = map (λ state. state.now) c.as_slice.result.now in
    let those = map (λ state. state.now) c.as_slice-2.result.now in
    IfOk-weaker c.with_rows.result (λ case. case ≡ with_rows c.args.frame.now those c.in_ok-piece.piece)
    (λ case. case ≡ common_case c.args.frame.now c.args.states.now)
    (λ case is. common_is c.args.frame.now c.args.states.now common those c.in_ok-piece.piece case c.in_ok-piece.ensures.piece
    (ap (map (λ state. state.now)) c.as_slice.ensures.value ∙ (c.in_ok-entering.ensures ∙ ap (λ frame. frame.entering) c.frame.view_is))
    (ap (map (λ state. state.now)) c.as_slice-2.ensures.value ∙ c.in_ok-those.ensures) is)
    c.with_rows.ensures

pub returns-clause-stands : goal.returns-clause-stands
returns-clause-stands c =
    IfOk-weaker c.with_rows.result (λ case. case ≡ common_case c.args.frame.now c.args.states.now) (IsCase c.args.frame.now)
    (λ case is. common_is_case c.args.frame.now c.args.states.now case is c.requires.frame) (returns-clause-case c)
