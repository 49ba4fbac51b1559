use Rattle.bst_step.proofs.WrittenSteps.{steps_add}
use Rattle.bst_step.proofs.laws.steps_add_up.Goals as goal

pub returns : goal.returns
returns c = steps_add
