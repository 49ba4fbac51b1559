-- The frame is that of what the command leaves.
use Rattle.std.proofs.Common.{◌≡◌, List, [], ◌∷◌, ap, sym, subst, ◌∙◌, arith}
use Rattle.std.specs.List.{All}
use Rattle.std.proofs.lemmas.List.Elements.{All-cons, All-nil}
use Rattle.std.proofs.lemmas.Result.{IfOk-weaker}
use Rattle.lin_facts.specs.declared.row.Part.{Part}
use Rattle.sym_state.specs.WellMade.{WellMade}
use Rattle.loop_templates.specs.Cases.{Frame, IsSumOver}
use Rattle.loop_templates.specs.Sums.{IsSmallSum, sums}
use Rattle.loop_templates.specs.Visits.{common_case}
use Rattle.loop_templates.proofs.Over.{command_sums_over}
use Rattle.command_flow.specs.Templates.{frame_left, frame_of_parts}
use Rattle.command_flow.proofs.FramesLeft.{frame_is_left}
use Rattle.command_flow.proofs.kept.case_left.Goals as goal

pub common_case-requires-clause-frame : goal.common_case-requires-clause-frame
common_case-requires-clause-frame c =
    let style = c.args.at.now.style.now in
    let leaving = c.args.leaving in
    record {
      sound = c.requires.at.sound;
      entering = All-cons (WellMade style) c.args.start [] c.requires.start (All-nil (WellMade style));
      some = omega arith;
      there = c.requires.leaving;
      sums = subst (λ (all : List (List Part)). All IsSmallSum all) (sym c.as_slice-3.ensures.value) c.in_ok-sums.ensures.small;
      over = subst (λ (all : List (List Part)). All (IsSumOver style leaving.bound leaving.has_pos) all)
          (sym (c.as_slice-3.ensures.value ∙ c.in_ok-sums.ensures.sums ∙ ap sums (c.as_slice.ensures.value ∙ c.in_ok-terms.ensures)))
          (command_sums_over style c.in_ok-anywhere.anywhere leaving.bound leaving.has_pos);
    }

pub returns : goal.returns
returns c =
    let style = c.args.at.now.style.now in
    let admits = c.args.at.now.cond.now in
    let same = frame_is_left style admits c.args.name c.args.leaving c.args.start c.in_ok-reached.reached c.in_ok-anywhere.anywhere c.as_slice-2.result.now
    c.as_slice.result.now c.as_slice-3.result.now c.in_ok-reached.ensures (c.as_slice-2.ensures.value ∙ c.in_ok-writes.ensures) c.in_ok-anywhere.ensures
    (c.as_slice.ensures.value ∙ c.in_ok-terms.ensures) (c.as_slice-3.ensures.value ∙ c.in_ok-sums.ensures.sums) in
    IfOk-weaker c.common_case.result
    (λ case. case ≡ common_case (frame_of_parts style admits c.args.leaving c.as_slice-2.result.now c.as_slice-3.result.now (c.args.start ∷ [])) c.args.states.now)
    (λ case. case ≡ common_case (frame_left style admits c.args.name c.args.leaving c.args.start) c.args.states.now)
    (λ case is. is ∙ ap (λ (frame : Frame). common_case frame c.args.states.now) same) c.common_case.ensures.case
