use Rattle.std.proofs.Common.{◌≡◌, ◌+◌, ◌*◌, ◌≤◌, length}
use Rattle.std.specs.List.{sum_by}
use Rattle.bv_base.specs.Levels.{pieces_after}
use Rattle.text_ops.specs.declared.width.TheConstants.{WIDEST_BYTE}
use Rattle.text_ops.specs.Width.{piece_width, width_of}
use Rattle.text_ops.proofs.width.width.Given as goal

abbrev pub invariant-loop-rest : goal.invariant-loop-rest
invariant-loop-rest l = record {
  width : l.total + sum_by piece_width (pieces_after 0 l.level l.rest) ≡ width_of l.fn.s;
  bound : l.total + WIDEST_BYTE * length l.rest ≤ WIDEST_BYTE * length l.fn.s;
  level_bound : l.level + length l.rest ≤ length l.fn.s;
}

abbrev pub decreases-loop-rest : goal.decreases-loop-rest
decreases-loop-rest l = length l.rest
