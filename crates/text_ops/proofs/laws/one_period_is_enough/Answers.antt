use Rattle.text_ops.proofs.LawsOfSubstring.{period_twice}
use Rattle.text_ops.proofs.laws.one_period_is_enough.Goals as goal

pub returns : goal.returns
returns c = period_twice
