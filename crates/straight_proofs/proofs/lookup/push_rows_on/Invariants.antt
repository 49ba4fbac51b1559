-- Those of the rows so far and of the rows that are left are those of all.
use Rattle.std.proofs.Common.{◌≡◌, ◌++◌, drop}
use Rattle.straight_proofs.specs.Lookup.{rows_on}
use Rattle.straight_proofs.proofs.lookup.push_rows_on.Given as goal

abbrev pub invariant-loop-k : goal.invariant-loop-k
invariant-loop-k l =
    l.all.items ++ rows_on l.term l.remainder l.k (drop l.k l.rows) ≡ l.initial.all.items ++ rows_on l.term l.remainder 0 l.rows
