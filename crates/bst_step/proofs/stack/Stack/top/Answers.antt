-- What has no first item is empty.
use Rattle.std.proofs.Common.{sym}
use Rattle.bst_step.proofs.StackSteps.{no_first}
use Rattle.bst_step.proofs.stack.Stack.top.Goals as goal

pub returns-in-None : goal.returns-in-None
returns-in-None g c = no_first c.args.self.now.items (sym c.in-None.ensures)
