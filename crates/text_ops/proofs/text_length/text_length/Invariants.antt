use Rattle.std.proofs.Common.{◌≡◌, ◌+◌, ◌≤◌, length}
use Rattle.std.specs.List.{filter}
use Rattle.bv_base.specs.Levels.{pieces_after, is_text_character}
use Rattle.text_ops.specs.TextLength.{text_length_of}
use Rattle.text_ops.proofs.text_length.text_length.Given as goal

abbrev pub invariant-loop-rest : goal.invariant-loop-rest
invariant-loop-rest l = record {
  count : l.count + length (filter is_text_character (pieces_after 0 l.level l.rest)) ≡ text_length_of l.fn.s;
  level_bound : l.level + length l.rest ≤ length l.fn.s;
  count_bound : l.count + length l.rest ≤ length l.fn.s;
}

abbrev pub decreases-loop-rest : goal.decreases-loop-rest
decreases-loop-rest l = length l.rest
