use Rattle.std.proofs.Common.{◌+◌, ◌-◌, ◌<◌, ◌≤◌}
use Rattle.bst_step.specs.Settled.{AreParted, IsRenewed}
use Rattle.bst_step.proofs.renewal.renew_values.Given as goal

-- all is seen as it was, and each string is finished or is to come
abbrev pub invariant-loop-from : goal.invariant-loop-from
invariant-loop-from l = record {
  size : 0 < l.size;
  behind : l.front ≤ l.from;
  globals : IsRenewed l.fn.pool.items l.fn.globals l.pool.items l.globals;
  own : IsRenewed l.fn.pool.items l.fn.own l.pool.items l.own;
  parted : AreParted l.to l.from l.pool.items l.globals l.own;
}

-- the next window begins later, or the same one is larger
abbrev pub decreases-loop-from : goal.decreases-loop-from
decreases-loop-from l = (18446744073709551615 - l.from) + (18446744073709551615 - l.size)
