use Rattle.std.proofs.Common.{◌≡◌, map, take, vec_capacity}
use Rattle.bst_step.specs.PackedValues.{unpacked}
use Rattle.bst_step.proofs.packed_values.widen.Given as goal

-- the values so far stand as they are, in the room that there was
abbrev pub invariant-loop-value : goal.invariant-loop-value
invariant-loop-value l = record {
  wide : l.wide.items ≡ map (unpacked l.others) (take l.value-index l.packed);
  room : vec_capacity l.wide ≡ vec_capacity l.fn.wide;
}
