-- It is among the rows that are left where it is among all.
use Rattle.std.proofs.Common.{◌≡◌, drop}
use Rattle.std.specs.List.{list_any}
use Rattle.loop_templates.specs.Rows.{same_row}
use Rattle.loop_templates.proofs.rows.is_among.Given as goal

abbrev pub invariant-loop-other : goal.invariant-loop-other
invariant-loop-other l = list_any (same_row l.row) (drop l.other-index l.rows) ≡ list_any (same_row l.row) l.rows
