-- The value is that of the variable at the place of the name.
use Rattle.std.proofs.Common.{ap, arith, length, ◌∙◌, List}
use Rattle.name_table.specs.declared.names.NameId.{NameId}
use Rattle.bst_step.specs.declared.held.Held.{Held}
use Rattle.bst_step.specs.declared.variables.Variable.{Variable}
use Rattle.bst_step.specs.Places.{place_of}
use Rattle.bst_step.specs.Variables.{held_at, named}
use Rattle.bst_step.proofs.VariableSteps.{value_found, value_missing}
use Rattle.bst_step.proofs.variables.Variables.value.Goals as goal

pub returns-in-Some : goal.returns-in-Some
returns-in-Some c =
    value_found c.args.name.0 c.self.inside.names.items c.as_slice-values.result.now c.in-Some.at _
    (c.in-Some.ensures.place ∙ ap (λ (names : List NameId). place_of c.args.name.0 names) c.as_slice-2.ensures.value)
    (omega (
      arith,
      c.in-Some.ensures.within,
      ap length c.as_slice-2.ensures.value,
      ap length c.as_slice-values.ensures.value,
      c.self.invariant.many,
    ))
    ∙ ap (λ (values : List Held). held_at c.args.name.0 (named c.self.inside.names.items values)) c.as_slice-values.ensures.value
    ∙ ap (λ (vs : List Variable). held_at c.args.name.0 vs) c.self.view_is

pub returns-in-None : goal.returns-in-None
returns-in-None c =
    value_missing c.args.name.0 c.self.inside.names.items c.self.inside.values.items
    (c.in-None.ensures.place ∙ ap (λ (names : List NameId). place_of c.args.name.0 names) c.as_slice-2.ensures.value)
    ∙ ap (λ (vs : List Variable). held_at c.args.name.0 vs) c.self.view_is
