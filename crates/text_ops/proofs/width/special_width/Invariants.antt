use Rattle.std.proofs.Common.{◌≡◌, ◌+◌, ◌*◌, ◌≤◌, length}
use Rattle.std.specs.List.{sum_by}
use Rattle.bv_base.specs.Levels.{inside, beyond}
use Rattle.text_ops.specs.declared.width.TheConstants.{WIDEST_BYTE}
use Rattle.text_ops.specs.Width.{part_width, printed_parts}
use Rattle.text_ops.proofs.width.special_width.Given as goal

abbrev pub invariant-loop-rest : goal.invariant-loop-rest
invariant-loop-rest l = record {
  width : l.width + sum_by part_width (printed_parts (inside l.level l.rest)) ≡ sum_by part_width (printed_parts (inside 1 l.text));
  later : beyond l.level l.rest ≡ beyond 1 l.text;
  bound : l.width + WIDEST_BYTE * length l.rest ≤ WIDEST_BYTE * length l.text;
  level_bound : l.level + length l.rest ≤ length l.text + 1;
}

abbrev pub decreases-loop-rest : goal.decreases-loop-rest
decreases-loop-rest l = length l.rest
