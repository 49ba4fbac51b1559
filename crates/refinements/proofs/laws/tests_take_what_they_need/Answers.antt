use Rattle.refinements.proofs.HintsTaken.{test_took}
use Rattle.refinements.proofs.laws.tests_take_what_they_need.Goals as goal

pub returns : goal.returns
returns c = record {
  there = λ admits state test hints cases e. (test_took admits state test hints cases e).there;
  left = λ admits state test hints cases e. (test_took admits state test hints cases e).left;
}
