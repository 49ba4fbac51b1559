-- The parts so far are turned.
use Rattle.std.proofs.Common.{◌≡◌, map, take}
use Rattle.straight_proofs.specs.Remainders.{turned}
use Rattle.loop_templates.proofs.claims.negated.Given as goal

abbrev pub invariant-loop-part : goal.invariant-loop-part
invariant-loop-part l = l.all.items ≡ map turned (take l.part-index l.sum)
