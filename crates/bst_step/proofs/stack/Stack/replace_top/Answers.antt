-- The first item is replaced.
use Rattle.std.proofs.Common.{◌∙◌}
use Rattle.bst_step.proofs.StackSteps.{first_replaced}
use Rattle.bst_step.proofs.stack.Stack.replace_top.Goals as goal

pub returns-clause-moved : goal.returns-clause-moved
returns-clause-moved g c = c.replace.ensures.moved ∙ first_replaced c.args.self.now.items c.args.item c.requires
