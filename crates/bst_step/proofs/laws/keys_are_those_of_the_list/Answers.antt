use Rattle.bst_step.proofs.KeySteps.{key_stays}
use Rattle.bst_step.proofs.laws.keys_are_those_of_the_list.Goals as goal

pub returns : goal.returns
returns c = key_stays
