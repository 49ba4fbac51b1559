-- What is taken of the rows so far and of those that are left is taken of all.
use Rattle.std.proofs.Common.{◌≡◌, ◌≤◌, ◌++◌, drop, length, map, take}
use Rattle.std.specs.List.{filter}
use Rattle.loop_templates.specs.Rows.{is_wanted, row_in_piece}
use Rattle.loop_templates.proofs.rows.keep_wanted.Given as goal

abbrev pub invariant-loop-row : goal.invariant-loop-row
invariant-loop-row l = record {
  kept : take 64 (l.rows.items ++ filter (is_wanted l.cond l.start) (map (row_in_piece l.piece) (drop l.row-index l.found)))
      ≡ take 64 (l.initial.rows.items ++ filter (is_wanted l.cond l.start) (map (row_in_piece l.piece) l.found));
  few : length l.rows.items ≤ 64;
}
