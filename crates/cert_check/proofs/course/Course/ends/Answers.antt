use Rattle.std.proofs.Common.{List, sym, ap, subst, ◌∙◌}
use Rattle.std.specs.List.{All}
use Rattle.sym_state.specs.State.{State}
use Rattle.sym_state.specs.WellMade.{HasBounds}
use Rattle.cert_check.specs.Courses.{Course}
use Rattle.cert_check.proofs.course.Course.ends.Goals as goal

pub all_end-answer-requires-clause-states : goal.all_end-answer-requires-clause-states
all_end-answer-requires-clause-states c =
    subst (λ (states : List State). All HasBounds states) (sym (c.as_slice.ensures.value ∙ ap (λ (course : Course). course.given) c.self.view_is)) c.requires.states
