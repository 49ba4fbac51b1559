-- The rows so far are there.
use Rattle.std.proofs.Common.{◌≡◌, take}
use Rattle.straight_proofs.proofs.lookup.rows_in_reach.Given as goal

abbrev pub invariant-loop-k : goal.invariant-loop-k
invariant-loop-k l = l.rows.items ≡ take l.k l.state.rows
