-- The names and the values are those of the variables.
use Rattle.std.proofs.Common.{arith}
use Rattle.bst_step.proofs.VariableSteps.{split_named}
use Rattle.bst_step.proofs.variables.Variables.new.Goals as goal

pub returns : goal.returns
returns c =
    split_named c.loop-variable.names.items c.loop-variable.values.items c.args.items.now c.loop-variable.variable-index
    (omega (arith, c.loop-variable-test.false)) c.loop-variable.invariant.names c.loop-variable.invariant.values
