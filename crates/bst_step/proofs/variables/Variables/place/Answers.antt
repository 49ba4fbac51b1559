-- The place is that among the names of the variables.
use Rattle.std.proofs.Common.{◌∙◌, List, ap}
use Rattle.name_table.specs.declared.names.NameId.{NameId}
use Rattle.bst_step.specs.Places.{place_of}
use Rattle.bst_step.proofs.VariableSteps.{names_seen}
use Rattle.bst_step.proofs.variables.Variables.place.Goals as goal

pub returns : goal.returns
returns c =
    c.place_in.ensures.place
    ∙ ap (λ (names : List NameId). place_of c.args.name.0 names)
    (names_seen c.self.inside.names.items c.as_slice-2.result.now c.self.inside.values.items c.args.self.now c.as_slice-2.ensures.value
    c.self.invariant.many c.self.view_is)
