-- The whole coefficient is the sum so far and that of the parts that are left.
use Rattle.std.proofs.Common.{◌≡◌, ◌*◌, ◌^◌, drop}
use Rattle.std.specs.Prelude.{◌+ℤ◌}
use Rattle.std.specs.List.{All}
use Rattle.lin_facts.specs.Rows.{coefficient_of, IsWithin}
use Rattle.lin_facts.proofs.follows.coefficient_of.Given as goal

abbrev pub invariant-loop-part : goal.invariant-loop-part
invariant-loop-part l = record {
  left : coefficient_of l.parts l.term ≡ (l.sum +ℤ coefficient_of (drop l.part-index l.parts) l.term);
  size : IsWithin (l.part-index * 10133099161583616) l.sum;
  small : All (λ part. IsWithin (2 ^ 45) part.coefficient) l.parts → IsWithin (l.part-index * 35184372088832) l.sum;
}
