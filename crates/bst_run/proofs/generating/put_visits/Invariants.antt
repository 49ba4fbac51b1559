use Rattle.std.proofs.Common.{◌≡◌, ◌++◌}
use Rattle.bst_run.specs.Generated.{visits}
use Rattle.bst_run.proofs.generating.put_visits.Given as goal

-- the visits so far are appended
abbrev pub invariant-loop-before : goal.invariant-loop-before
invariant-loop-before l = l.text.items ≡ l.initial.text.items ++ visits l.before
