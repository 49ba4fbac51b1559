-- Those of the rows so far and of the rows that are left are those of all.
use Rattle.std.proofs.Common.{◌≡◌, ◌++◌, drop}
use Rattle.std.specs.List.{filter}
use Rattle.straight_proofs.specs.Lookup.{has}
use Rattle.straight_proofs.proofs.with_term.push_with.Given as goal

abbrev pub invariant-loop-row : goal.invariant-loop-row
invariant-loop-row l = l.all.items ++ filter (has l.above l.term) (drop l.row-index l.rows) ≡ l.initial.all.items ++ filter (has l.above l.term) l.rows
