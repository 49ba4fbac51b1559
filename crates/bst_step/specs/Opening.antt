-- The variables with which a run opens, whoever has them (docs/MACHINE.md, "Configurations").
use Rattle.std.specs.Prelude.{ℕ, List}
use Rattle.name_table.specs.declared.names.Kind.{Kind}
use Rattle.bst_meaning.specs.Config.{Variable, opening_entry_variable, opening_global}
use Rattle.bst_step.specs.declared.opening.Owner.{Owner}
use Rattle.bst_step.specs.declared.opening.Owner.TheVariants.{Style, Entry}

-- the variable that a name declares, if it is one of this owner
abbrev pub opening_of : Owner → ℕ → Kind → List Variable → List Variable
opening_of Style = opening_global
opening_of Entry = opening_entry_variable
