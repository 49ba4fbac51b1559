use Rattle.std.proofs.Common.{◌≡◌, ◌+◌, ◌++◌, ◌≤◌, length}
use Rattle.std.specs.List.{flat_map}
use Rattle.bv_base.specs.Levels.{pieces_after}
use Rattle.text_ops.specs.Purify.{purified, purified_piece}
use Rattle.text_ops.proofs.purify.purify.Given as goal

abbrev pub invariant-loop-rest : goal.invariant-loop-rest
invariant-loop-rest l = record {
  items : l.out.items ++ flat_map purified_piece (pieces_after 0 l.level l.rest) ≡ purified l.fn.s;
  bound : l.level + length l.rest ≤ length l.fn.s;
}

abbrev pub decreases-loop-rest : goal.decreases-loop-rest
decreases-loop-rest l = length l.rest
