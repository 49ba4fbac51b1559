-- It is one of the rows that are left where it is one of all.
use Rattle.std.proofs.Common.{◌≡◌, drop}
use Rattle.std.specs.List.{list_any}
use Rattle.loop_templates.specs.Rows.{same_row}
use Rattle.loop_templates.proofs.rows.is_row_of.Given as goal

abbrev pub invariant-loop-k : goal.invariant-loop-k
invariant-loop-k l = list_any (same_row l.row) (drop l.k l.state.rows) ≡ list_any (same_row l.row) l.state.rows
