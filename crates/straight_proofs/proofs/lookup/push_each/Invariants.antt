-- Those to the symbols so far are there.
use Rattle.std.proofs.Common.{◌≡◌, ◌++◌}
use Rattle.straight_proofs.specs.Lookup.{each_below}
use Rattle.straight_proofs.proofs.lookup.push_each.Given as goal

abbrev pub invariant-loop-s : goal.invariant-loop-s
invariant-loop-s l = l.all.items ≡ l.initial.all.items ++ each_below l.s l.kind
