use Rattle.std.proofs.Common.{◌≡◌, ◌-◌, ◌≤◌, ◌++◌, drop, length}
use Rattle.bst_step.specs.Settled.{first_behind, values_bytes}
use Rattle.bst_step.proofs.renewal.gather_packed.Given as goal

-- with what is found of the values that are left, all is found
abbrev pub invariant-loop-at : goal.invariant-loop-at
invariant-loop-at l = record {
  within : l.at ≤ length l.values;
  moved : l.moved.items ++ values_bytes l.window l.pool (drop l.at l.values) ≡ l.fn.moved.items ++ values_bytes l.window l.pool l.values;
  next : first_behind l.window.until l.next (drop l.at l.values) ≡ first_behind l.window.until l.other l.values;
}

abbrev pub decreases-loop-at : goal.decreases-loop-at
decreases-loop-at l = length l.values - l.at
