use Rattle.text_ops.proofs.LawsOfSubstring.{is_part, is_short}
use Rattle.text_ops.proofs.laws.a_substring_is_a_part.Goals as goal

pub returns-clause-part : goal.returns-clause-part
returns-clause-part c = is_part

pub returns-clause-short : goal.returns-clause-short
returns-clause-short c = is_short
