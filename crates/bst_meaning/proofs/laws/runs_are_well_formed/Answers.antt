use Rattle.bst_meaning.proofs.Formed.{run_formed, step_formed}
use Rattle.bst_meaning.proofs.Opened.{opening_formed}
use Rattle.bst_meaning.proofs.laws.runs_are_well_formed.Goals as goal

pub returns : goal.returns
returns c = record {
  opening = opening_formed;
  step = λ style list c sound fits formed. step_formed style list sound fits c formed;
  run = λ style list n sound fits. run_formed style list sound fits n;
}
