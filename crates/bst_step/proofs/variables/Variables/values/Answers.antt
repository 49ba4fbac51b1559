-- The values that are lent are those of the variables.
use Rattle.bst_step.proofs.VariableSteps.{values_seen}
use Rattle.bst_step.proofs.variables.Variables.values.Goals as goal

pub returns : goal.returns
returns c =
    values_seen c.self.inside.names.items c.self.inside.values.items c.as_slice.result.now c.args.self.now c.as_slice.ensures.value
    c.self.invariant.many c.self.view_is
