-- Each of the sums is over names that are bound.
use Rattle.loop_templates.proofs.Over.{command_sums_over, sums_over_names}
use Rattle.loop_templates.proofs.laws.sums_have_values.Goals as goal

pub returns-clause-loops : goal.returns-clause-loops
returns-clause-loops c = sums_over_names

pub returns-clause-commands : goal.returns-clause-commands
returns-clause-commands c = command_sums_over
