use Rattle.bst_run.proofs.TreeLemmas.{needs_read, needs_taken}
use Rattle.bst_run.proofs.laws.inputs_as_the_tree.Goals as goal

pub returns : goal.returns
returns c = λ told name text needs. (needs_read told name text needs, needs_taken told name text needs)
