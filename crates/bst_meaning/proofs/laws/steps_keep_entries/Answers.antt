use Rattle.bst_meaning.proofs.Placed.{steps_same}
use Rattle.bst_meaning.proofs.laws.steps_keep_entries.Goals as goal

pub returns : goal.returns
returns c = steps_same
