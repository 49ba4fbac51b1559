use Rattle.std.proofs.Common.{take}
use Rattle.bst_step.specs.Settled.{ValuesStand}
use Rattle.bst_step.proofs.renewal.values_stand.Given as goal

-- the values so far stand on one side of the place
abbrev pub invariant-loop-value : goal.invariant-loop-value
invariant-loop-value l = ValuesStand l.place l.place (take l.value-index l.values)
