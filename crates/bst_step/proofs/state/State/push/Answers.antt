-- A value more is on the stack.
use Rattle.std.proofs.Common.{◌∷◌}
use Rattle.bst_step.specs.Held.{value_of}
use Rattle.bst_step.proofs.AssignSteps.{moved_where_ok}
use Rattle.bst_step.proofs.state.State.push.Goals as goal

pub returns-clause-moved : goal.returns-clause-moved
returns-clause-moved c =
    moved_where_ok c.args.self.now c.push.new.self (value_of c.args.value ∷ c.args.self.now.values.stack) c.push.result c.push.ensures.stack
    c.push.ensures.globals c.push.ensures.entries
