use Rattle.std.proofs.Common.{◌≡◌, ◌++◌, [], map, drop, length}
use Rattle.bst_meaning.specs.Config as config
use Rattle.bst_step.specs.Marks.{AreLent}
use Rattle.bst_step.specs.Opening.{opening_of}
use Rattle.bst_step.specs.Places.{StandAt}
use Rattle.bst_step.specs.Variables.{VariablesWithin, names_in, variable_in}
use Rattle.bst_step.proofs.opening.variables.Given as goal

-- the variables so far, and those of the names that are left, are those of all names, none was made, and each stands at its place
abbrev pub invariant-loop-id : goal.invariant-loop-id
invariant-loop-id l = record {
  within : VariablesWithin 0 l.variables.items;
  lent : AreLent l.variables.items;
  count : length l.places.items ≡ l.id;
  stand : StandAt l.places.items (names_in l.variables.items);
  opened : map (variable_in []) l.variables.items ++ config.opening_variables (opening_of l.owner) l.id (drop l.id l.names)
      ≡ config.opening_variables (opening_of l.owner) 0 l.names;
}
