use Rattle.text_ops.proofs.LawsOfPrefix.{closed_prefix, few_characters}
use Rattle.text_ops.proofs.laws.a_prefix_is_closed.Goals as goal

pub returns-clause-closed : goal.returns-clause-closed
returns-clause-closed c = closed_prefix

pub returns-clause-few : goal.returns-clause-few
returns-clause-few c = few_characters
