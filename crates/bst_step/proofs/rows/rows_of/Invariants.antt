use Rattle.std.proofs.Common.{◌≡◌}
use Rattle.std.specs.List.{range_with_len}
use Rattle.bst_step.proofs.rows.rows_of.Given as goal

-- the places so far, from the first one on
abbrev pub invariant-loop-place : goal.invariant-loop-place
invariant-loop-place l = l.rows.items ≡ range_with_len 0 l.place
