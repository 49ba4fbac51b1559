-- What is taken of the rows so far and of those of the sums that are left is taken of all.
use Rattle.std.proofs.Common.{◌≡◌, ◌≤◌, ◌++◌, drop, flat_map, length, map, take}
use Rattle.std.specs.List.{filter}
use Rattle.loop_templates.specs.Rows.{is_wanted, row_in_piece, rows_of_sum}
use Rattle.loop_templates.proofs.Sought.{sought}
use Rattle.loop_templates.proofs.rows.gathered.Given as goal

abbrev pub invariant-loop-sum : goal.invariant-loop-sum
invariant-loop-sum l = record {
  kept : take 64 (l.rows.items
      ++ filter (is_wanted l.cond l.start) (flat_map (λ sum. map (row_in_piece l.piece) (rows_of_sum l.cond (sought l.fn.searches) sum)) (drop l.sum-index l.sums)))
      ≡ take 64 (filter (is_wanted l.cond l.start) (flat_map (λ sum. map (row_in_piece l.piece) (rows_of_sum l.cond (sought l.fn.searches) sum)) l.sums));
  few : length l.rows.items ≤ 64;
  stays : l.searches ≡ l.fn.searches;
}
