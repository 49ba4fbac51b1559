use Rattle.std.proofs.Common.{◌-◌, drop, take}
use Rattle.bst_step.specs.Settled.{AreBefore}
use Rattle.bst_step.proofs.packed_values.PackedValues.next_behind.Given as goal

-- the values so far end before the place
abbrev pub invariant-loop-at : goal.invariant-loop-at
invariant-loop-at l = AreBefore l.front (take (l.at - l.from) (drop l.from l.self))
