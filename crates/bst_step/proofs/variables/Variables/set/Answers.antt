-- The value at the place of the name is written, and the names stay.
use Rattle.std.proofs.Common.{ap, sym, ◌∙◌, List}
use Rattle.std.proofs.lemmas.List.{length-set}
use Rattle.name_table.specs.declared.names.NameId.{NameId}
use Rattle.bst_step.specs.declared.variables.Variable.{Variable}
use Rattle.bst_step.specs.Places.{place_of}
use Rattle.bst_step.specs.Variables.{with_held}
use Rattle.bst_step.proofs.VariableSteps.{set_missing, set_named, still_named}
use Rattle.bst_step.proofs.variables.Variables.set.Goals as goal

pub invariant_of-self : goal.invariant_of-self
invariant_of-self c =
    still_named c.self.inside.places.items c.self.inside.names.items c.self.inside.values.items _
    (length-set c.self.inside.values.items c.in-Some.at c.args.new.value) c.self.invariant

pub returns-in-Some : goal.returns-in-Some
returns-in-Some c =
    set_named c.args.new c.self.inside.names.items c.self.inside.values.items c.in-Some.at
    (c.in-Some.ensures.place ∙ ap (λ (ns : List NameId). place_of c.args.new.name.0 ns) c.as_slice-2.ensures.value)
    ∙ ap (λ (vs : List Variable). with_held c.args.new vs) c.self.view_is

pub returns-in_default : goal.returns-in_default
returns-in_default c =
    sym c.self.view_is
    ∙ set_missing c.args.new c.self.inside.names.items c.self.inside.values.items
    (c.in_default.ensures.place ∙ ap (λ (ns : List NameId). place_of c.args.new.name.0 ns) c.as_slice-2.ensures.value)
    ∙ ap (λ (vs : List Variable). with_held c.args.new vs) c.self.view_is
