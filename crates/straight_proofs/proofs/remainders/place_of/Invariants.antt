-- The place is behind those so far, by as many as it is in those that are left.
use Rattle.std.proofs.Common.{◌≡◌, ◌+◌, drop}
use Rattle.straight_proofs.specs.Remainders.{place_of}
use Rattle.straight_proofs.proofs.remainders.place_of.Given as goal

abbrev pub invariant-loop-k : goal.invariant-loop-k
invariant-loop-k l = place_of l.parts l.term ≡ l.k + place_of (drop l.k l.parts) l.term
