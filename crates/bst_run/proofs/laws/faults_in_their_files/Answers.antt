use Rattle.bst_run.proofs.FileFaultLemmas.{needs_faulty}
use Rattle.bst_run.proofs.laws.faults_in_their_files.Goals as goal

pub returns : goal.returns
returns c = λ told name outcome e. needs_faulty told name outcome e
