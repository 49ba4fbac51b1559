-- Those of the rows so far, and those of the rows that are left.
use Rattle.std.proofs.Common.{◌≡◌, Bool, ◌++◌, drop, map}
use Rattle.std.specs.List.{filter}
use Rattle.lin_facts.specs.declared.row.Row.{Row}
use Rattle.loop_templates.proofs.lowering.marked_rows.Given as goal

abbrev pub invariant-loop-k : goal.invariant-loop-k
invariant-loop-k l = (test : Row → Bool) → l.marks ≡ map test l.rows → l.left.items ++ filter test (drop l.k l.rows) ≡ filter test l.rows
