-- The parts so far, to which those that are left are added, are all parts.
use Rattle.std.proofs.Common.{◌≡◌, ◌*◌, [], drop}
use Rattle.std.specs.List.{fold}
use Rattle.straight_proofs.specs.Remainders.{added}
use Rattle.straight_proofs.proofs.Canonical.{AreWithin}
use Rattle.straight_proofs.proofs.remainders.in_order.Given as goal

abbrev pub invariant-loop-part : goal.invariant-loop-part
invariant-loop-part l = record {
  left : fold (λ parts part. added part parts) l.all.items (drop l.part-index l.others) ≡ fold (λ parts part. added part parts) [] l.others;
  size : AreWithin (l.part-index * 35184372088832) l.all.items;
}
