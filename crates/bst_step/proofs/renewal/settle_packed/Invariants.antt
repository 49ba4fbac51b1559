use Rattle.std.proofs.Common.{◌≡◌, ◌+◌, ◌-◌, ◌≤◌, ◌++◌, drop, length, take}
use Rattle.bst_step.specs.Settled.{values_count, values_settled}
use Rattle.bst_step.proofs.renewal.settle_packed.Given as goal

-- the values so far are settled, and with the others settled behind them all are
abbrev pub invariant-loop-at : goal.invariant-loop-at
invariant-loop-at l = record {
  within : l.at ≤ length l.values;
  settled : take l.at l.values ++ values_settled l.window l.end (drop l.at l.values) ≡ values_settled l.window l.to l.fn.values;
  end : l.end + values_count l.window (drop l.at l.values) ≡ l.to + values_count l.window l.fn.values;
  many : length l.values ≡ length l.fn.values;
}

abbrev pub decreases-loop-at : goal.decreases-loop-at
decreases-loop-at l = length l.values - l.at
