use Rattle.std.proofs.Common.{◌≡◌, ◌++◌, drop}
use Rattle.bst_step.specs.Variables.{names_in, values_in}
use Rattle.bst_step.proofs.variables.Variables.new.Given as goal

-- with the names and the values of the variables that are left those of all are there
abbrev pub invariant-loop-variable : goal.invariant-loop-variable
invariant-loop-variable l = record {
  names : l.names.items ++ names_in (drop l.variable-index l.items) ≡ names_in l.items;
  values : l.values.items ++ values_in (drop l.variable-index l.items) ≡ values_in l.items;
}
