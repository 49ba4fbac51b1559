-- The numbers of the parts so far and of those that are left are those of all.
use Rattle.std.proofs.Common.{◌≡◌, ◌++◌, drop}
use Rattle.straight_proofs.specs.Remembered.{numbers_of}
use Rattle.straight_proofs.proofs.remembered.push_parts.Given as goal

abbrev pub invariant-loop-part : goal.invariant-loop-part
invariant-loop-part l = l.key.items ++ numbers_of (drop l.part-index l.parts) ≡ l.initial.key.items ++ numbers_of l.parts
