-- The law of well-made cases.
use Rattle.refinements.proofs.Kept.{above_made, split_made}
use Rattle.refinements.proofs.laws.cases_are_well_made.Goals as goal

pub returns : goal.returns
returns c = record {
  split = λ style admits state test hints cases made is given. split_made style admits state test hints cases made is given;
  labelled = λ style admits state s hints all made less given. above_made style admits state s hints all made less given;
}
