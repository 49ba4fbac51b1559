use Rattle.bst_step.proofs.BrokenLines.{enough, none_left, shorter}
use Rattle.bst_step.proofs.laws.lines_are_broken_to_the_end.Goals as goal

pub returns : goal.returns
returns c = record { shorter = shorter; enough = enough; none_left = none_left }
