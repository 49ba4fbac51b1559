use Rattle.std.proofs.Common.{◌≡◌, length, map, take}
use Rattle.bst_step.specs.PackedValues.{AreAmong, unpacked}
use Rattle.bst_step.proofs.packed_values.packed_each.Given as goal

-- the values so far are packed
abbrev pub invariant-loop-value : goal.invariant-loop-value
invariant-loop-value l = record {
  values : map (unpacked l.others.items) l.packed.items ≡ take l.value-index l.values;
  among : AreAmong (length l.others.items) l.packed.items;
}
