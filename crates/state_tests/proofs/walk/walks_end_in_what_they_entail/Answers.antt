-- From the state that starts, token by token, by what each law gives.
use Rattle.std.proofs.Common.{ℕ, ◌≤◌, List, [], ◌∷◌, ◌++◌, arith}
use Rattle.bst_meaning.specs.Config.{Config, Frame}
use Rattle.bst_meaning.specs.Machine.{step}
use Rattle.sym_state.specs.Entailing.{match_of, under}
use Rattle.sym_state.specs.Starting.{all_symbols, started}
use Rattle.sym_state.specs.State.{State}
use Rattle.sym_state.specs.Frames.{LeavesVariables}
use Rattle.sym_state.specs.WellMade.{WellMade}
use Rattle.state_tests.proofs.Walking.{At, among_all, covered_on, effect_plain, framed_next, is_test, pushed_on, taken, test_plain}
use Rattle.state_tests.proofs.walk.walks_end_in_what_they_entail.Goals as goal

pub returns : goal.returns
returns c = λ style admits list v pieces whole at_entry config below walk sound fields limits numbered fit can walked next.
    let n : ℕ = all_symbols pieces in
    let start : State = started style admits pieces whole at_entry in
    let began = c.started_states_stand.ensures style admits list v pieces whole at_entry config below numbered can in
    let at_start : At style admits list v n (walk.literal ∷ (walk.value ∷ (walk.call ∷ (walk.asked ∷ [])))) start config below = record {
      assignment = began.assignment;
      agrees = began.agrees;
      few = omega arith;
      made = c.started_states_are_well_made.ensures style admits pieces whole at_entry fields numbered fit;
      stands = began.stands;
      next = next;
    } in
    let one : Config = step style config in
    let at_one : At style admits list v n (walk.value ∷ (walk.call ∷ (walk.asked ∷ []))) walk.one one below =
    pushed_on style admits list v n walk.literal (walk.value ∷ (walk.call ∷ (walk.asked ∷ []))) start walk.one config below at_start
    (λ frames. c.pushes_cover.ensures style admits list at_start.assignment start (record config { frames = frames }) below walk.literal.place
    walk.literal.token walk.one sound walked.literal_fits at_start.made
    (c.frames_are_free.ensures style admits list at_start.assignment start config below frames at_start.stands) walked.literal)
    (c.pushes_keep.ensures.made style start walk.literal.token walk.one sound walked.literal_fits at_start.made walked.literal)
    (c.pushes_keep.ensures.leaves style start walk.literal.token walk.one walked.literal).extends.next in
    let two : Config = step style one in
    let at_two : At style admits list v n (walk.call ∷ (walk.asked ∷ [])) walk.two two below =
    pushed_on style admits list v n walk.value (walk.call ∷ (walk.asked ∷ [])) walk.one walk.two one below at_one
    (λ frames. c.pushes_cover.ensures style admits list at_one.assignment walk.one (record one { frames = frames }) below walk.value.place
    walk.value.token walk.two sound walked.value_fits at_one.made
    (c.frames_are_free.ensures style admits list at_one.assignment walk.one one below frames at_one.stands) walked.value)
    (c.pushes_keep.ensures.made style walk.one walk.value.token walk.two sound walked.value_fits at_one.made walked.value)
    (c.pushes_keep.ensures.leaves style walk.one walk.value.token walk.two walked.value).extends.next in
    let three : Config = step style two in
    let frames : List Frame = (taken style walk.call (walk.asked ∷ []) two at_two.next).frames in
    let at_three : At style admits list v n (walk.asked ∷ []) walk.after.state three below =
    covered_on style admits list v n walk.call (walk.asked ∷ []) walked.op walk.two walk.after.state two below at_two
    walked.calls (effect_plain style admits walk.two walked.op walk.hints walk.after walked.effect)
    (λ d. c.effects_are_confined.ensures.kept style walked.op walk.call.place d)
    (c.effects_cover.ensures style admits list at_two.assignment walk.two (record two { frames = frames }) below walk.call.place walked.op
    walk.hints walk.after at_two.made (c.frames_are_free.ensures style admits list at_two.assignment walk.two two below frames at_two.stands)
    walked.effect)
    (c.effects_keep.ensures style admits walk.two walked.op walk.hints walk.after limits at_two.made walked.effect)
    (framed_next style walked.op walk.two walk.after.state
    (c.effects_leave_the_rest.ensures style admits walk.two walked.op walk.hints walk.after at_two.made walked.effect)) in
    let last : List Frame = (taken style walk.asked [] three at_three.next).frames in
    let found = c.one_case_covers.ensures style admits list at_three.assignment walk.after.state (record three { frames = last }) below
    walk.asked.place walk.test walked.test walk.after.hints walk.cases at_three.made
    (c.frames_are_free.ensures style admits list at_three.assignment walk.after.state three below last at_three.stands)
    walked.function walked.split in
    let made : WellMade style found.after = among_all (WellMade style) found.after walk.cases.states
    (c.cases_are_well_made.ensures.split style admits walk.after.state walk.test walk.after.hints walk.cases at_three.made
    (is_test walk.test walk.after.state walked.test walked.function) walked.split) found.among in
    let left : LeavesVariables walk.after.state found.after = among_all (LeavesVariables walk.after.state) found.after walk.cases.states
    (c.cases_leave_the_rest.ensures.split admits walk.after.state walk.test walk.after.hints walk.cases walked.split) found.among in
    let at_last : At style admits list v n [] found.after (step style three) below =
    covered_on style admits list v n walk.asked [] walked.test walk.after.state found.after three below at_three
    walked.asks (test_plain walk.test walked.test walked.function)
    (λ d. c.effects_are_confined.ensures.kept style walked.test walk.asked.place d) found.covers made left.extends.next in
    let entails = walked.entailed found.after found.among in
    record {
      goes_on = at_last.next.goes_on;
      last = found.after;
      among = found.among;
      made = made;
      assignment = at_last.assignment;
      agrees = at_last.agrees;
      shown = λ proof row shown. c.shown_rows_hold.ensures style admits at_last.assignment found.after proof row at_last.stands.satisfied shown;
      holds = c.entailed_pieces_hold.ensures style admits list at_last.assignment found.after (step style three) below walk.piece walk.kept
          entails.0 entails.1 at_last.stands;
    }
