use Rattle.text_ops.proofs.LawsOfCase.{fixed_kept, lower_kept, title_kept}
use Rattle.text_ops.proofs.laws.another_case_keeps_the_rest.Goals as goal

pub returns-clause-rest : goal.returns-clause-rest
returns-clause-rest c = fixed_kept

pub returns-clause-lower : goal.returns-clause-lower
returns-clause-lower c = lower_kept

pub returns-clause-title : goal.returns-clause-title
returns-clause-title c = title_kept
