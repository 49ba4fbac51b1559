-- Behind the front of the pool all strings are to come.
use Rattle.bst_step.proofs.SettledSteps.{none_moved}
use Rattle.bst_step.proofs.renewal.front_of.Goals as goal

pub returns-else-place-pool : goal.returns-else-place-pool
returns-else-place-pool c = none_moved c.args.pool.now c.args.globals.now c.args.own.now
