-- The whole sum is the sum so far and that of the uses that are left.
use Rattle.std.proofs.Common.{◌≡◌, ◌*◌, drop}
use Rattle.std.specs.Prelude.{◌+ℤ◌}
use Rattle.lin_facts.specs.Rows.{IsWithin}
use Rattle.lin_facts.specs.Follows.{summed}
use Rattle.lin_facts.proofs.follows.summed.Given as goal

abbrev pub invariant-loop-u : goal.invariant-loop-u
invariant-loop-u l = record {
  left : summed l.rows l.column l.uses ≡ (l.sum +ℤ summed l.rows l.column (drop l.u-index l.uses));
  size : IsWithin (l.u-index * 4835703278458516698824704) l.sum;
}
