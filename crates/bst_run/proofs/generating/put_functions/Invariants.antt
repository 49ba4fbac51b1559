use Rattle.std.proofs.Common.{◌≡◌, ◌++◌}
use Rattle.bst_run.specs.Generated.{functions, number_of}
use Rattle.bst_run.proofs.generating.put_functions.Given as goal

-- the functions so far are appended, and the number is that of the last
abbrev pub invariant-loop-before : goal.invariant-loop-before
invariant-loop-before l = record {
  text : l.text.items ≡ l.initial.text.items ++ functions l.seed l.before;
  number : l.number ≡ number_of l.seed l.before;
}
