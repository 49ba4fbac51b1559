use Rattle.bst_step.proofs.WrittenSteps.{steps_leave}
use Rattle.bst_step.proofs.laws.steps_leave_what_was_written.Goals as goal

pub returns : goal.returns
returns c = steps_leave
