use Rattle.text_ops.proofs.LowerTwice.{lower_again}
use Rattle.text_ops.proofs.laws.small_letters_stay.Goals as goal

pub returns : goal.returns
returns c = lower_again
