use Rattle.std.proofs.Common.{◌≡◌}
use Rattle.bst_step.specs.EntryStates.{repeated}
use Rattle.bst_step.proofs.packed_values.PackedValues.repeated.Given as goal

-- so many times the same values so far
abbrev pub invariant-loop-time : goal.invariant-loop-time
invariant-loop-time l = l.packed.items ≡ repeated l.time l.each.items
