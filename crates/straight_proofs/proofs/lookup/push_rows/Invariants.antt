-- The rows so far are there.
use Rattle.std.proofs.Common.{◌≡◌, ◌++◌, map}
use Rattle.std.specs.List.{range_with_len}
use Rattle.sym_state.specs.declared.proof.Reference.TheVariants.{Row}
use Rattle.straight_proofs.proofs.lookup.push_rows.Given as goal

abbrev pub invariant-loop-k : goal.invariant-loop-k
invariant-loop-k l = l.all.items ≡ l.initial.all.items ++ map Row (range_with_len 0 l.k)
