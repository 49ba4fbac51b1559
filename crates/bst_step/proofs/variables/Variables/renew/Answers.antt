-- The values that were written are renewed, and their names stay.
use Rattle.std.proofs.Common.{List, length, subst, sym}
use Rattle.bst_step.specs.declared.held.Held.{Held}
use Rattle.bst_step.specs.Held.{ValuesWithin}
use Rattle.bst_step.proofs.RenewedSteps.{variables_end, variables_marked, variables_named, variables_seen}
use Rattle.bst_step.proofs.VariableSteps.{values_seen, variables_within}
use Rattle.bst_step.proofs.variables.Variables.renew.Goals as goal

pub renew_values-requires-clause-globals : goal.renew_values-requires-clause-globals
renew_values-requires-clause-globals c =
    subst (λ (vs : List Held). ValuesWithin (length c.args.pool.now.items) vs)
    (sym (values_seen c.self.inside.names.items c.self.inside.values.items c.as_mut_slice.result.now c.args.self.now c.as_mut_slice.ensures.value
    c.self.invariant.many c.self.view_is))
    (variables_within (length c.args.pool.now.items) c.args.self.now c.requires.own)

pub invariant_of-self : goal.invariant_of-self
invariant_of-self c =
    variables_named c.args.pool.now.items c.renew_values.new.pool.items c.as_mut_slice.result.now c.self.inside.values.items c.renew_values.new.globals
    c.self.inside.values.len c.as_mut_slice.ensures.value c.as_mut_slice.ensures.len c.renew_values.ensures.globals c.self.inside.names.items
    c.self.inside.places.items c.self.invariant

pub returns-clause-within : goal.returns-clause-within
returns-clause-within c =
    variables_end c.args.pool.now.items c.renew_values.new.pool.items c.as_mut_slice.result.now c.self.inside.values.items c.renew_values.new.globals
    c.self.inside.values.len c.as_mut_slice.ensures.value c.as_mut_slice.ensures.len c.renew_values.ensures.globals c.self.inside.names.items

pub returns-clause-seen : goal.returns-clause-seen
returns-clause-seen c =
    variables_seen c.args.pool.now.items c.renew_values.new.pool.items c.as_mut_slice.result.now c.self.inside.values.items c.renew_values.new.globals
    c.self.inside.values.len c.as_mut_slice.ensures.value c.as_mut_slice.ensures.len c.renew_values.ensures.globals c.self.inside.names.items
    c.args.self.now c.self.view_is

pub returns-clause-marks : goal.returns-clause-marks
returns-clause-marks c =
    variables_marked c.args.pool.now.items c.renew_values.new.pool.items c.as_mut_slice.result.now c.self.inside.values.items c.renew_values.new.globals
    c.self.inside.values.len c.as_mut_slice.ensures.value c.as_mut_slice.ensures.len c.renew_values.ensures.globals c.self.inside.names.items
    c.args.self.now c.self.view_is
