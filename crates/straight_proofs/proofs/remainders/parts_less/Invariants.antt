-- The parts so far, from which those that are left are taken away, are all parts.
use Rattle.std.proofs.Common.{◌≡◌, ◌+◌, ◌*◌, drop}
use Rattle.std.specs.List.{fold}
use Rattle.straight_proofs.specs.Remainders.{added, turned}
use Rattle.straight_proofs.proofs.Canonical.{AreWithin}
use Rattle.straight_proofs.proofs.remainders.parts_less.Given as goal

abbrev pub invariant-loop-part : goal.invariant-loop-part
invariant-loop-part l = record {
  left : fold (λ parts part. added (turned part) parts) l.all.items (drop l.part-index l.others)
      ≡ fold (λ parts part. added (turned part) parts) l.parts l.others;
  size : AreWithin (9007199254740992 + l.part-index * 35184372088832) l.all.items;
}
