use Rattle.std.proofs.Common.{◌≡◌, ◌+◌, ◌++◌, ◌≤◌, length}
use Rattle.std.specs.List.{flat_map}
use Rattle.bv_base.specs.Levels.{pieces_after, spelling, level_after}
use Rattle.text_ops.specs.TextPrefix.{prefix_of, first_characters}
use Rattle.text_ops.proofs.text_prefix.prefix.Given as goal

abbrev pub invariant-loop-left : goal.invariant-loop-left
invariant-loop-left l = record {
  text : l.text.items ++ flat_map spelling (first_characters l.left (pieces_after 0 l.level l.rest)) ≡ prefix_of l.fn.s l.fn.count;
  level : l.level ≡ level_after 0 l.text.items;
  bound : l.level + length l.rest ≤ length l.fn.s;
}

abbrev pub decreases-loop-left : goal.decreases-loop-left
decreases-loop-left l = length l.rest
