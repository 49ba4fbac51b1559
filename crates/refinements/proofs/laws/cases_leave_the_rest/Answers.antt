-- The law of what cases leave.
use Rattle.refinements.proofs.Framing.{above_left, split_left}
use Rattle.refinements.proofs.laws.cases_leave_the_rest.Goals as goal

pub returns : goal.returns
returns c = record {
  split = λ admits state test hints cases given. split_left admits state test hints cases given;
  labelled = λ admits state s hints all given. above_left admits state s hints all given;
}
