use Rattle.std.proofs.Common.{◌-◌, ◌≤◌, length, take}
use Rattle.bst_step.specs.Settled.{ValuesStand}
use Rattle.bst_step.proofs.renewal.packed_stand.Given as goal

-- the values so far stand on one side of the place
abbrev pub invariant-loop-at : goal.invariant-loop-at
invariant-loop-at l = record { within : l.at ≤ length l.values; stand : ValuesStand l.place l.place (take l.at l.values) }

abbrev pub decreases-loop-at : goal.decreases-loop-at
decreases-loop-at l = length l.values - l.at
