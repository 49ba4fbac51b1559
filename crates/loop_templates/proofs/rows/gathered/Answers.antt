-- The rows of one sum more are looked at, which are over small sums.
use Rattle.std.proofs.Common.{◌≡◌, ◌<◌, ◌≤◌, ◌++◌, List, length, map, flat_map, ap, drop, take, sym, subst, ◌∙◌, arith, refl}
use Rattle.std.specs.List.{All, filter}
use Rattle.lin_facts.specs.declared.row.Row.{Row}
use Rattle.straight_proofs.specs.Asked.{Asked}
use Rattle.loop_templates.specs.Rows.{is_wanted, row_in_piece, rows_of_sum}
use Rattle.loop_templates.specs.Sums.{IsSmallSum}
use Rattle.loop_templates.proofs.SmallRows.{HasSmallSum, rows_small}
use Rattle.loop_templates.proofs.Sought.{sought}
use Rattle.loop_templates.proofs.Wanted.{gathered_next, kept_all, kept_full}
use Rattle.loop_templates.proofs.rows.gathered.Goals as goal

pub rows_of_sum-requires-clause-searches : goal.rows_of_sum-requires-clause-searches
rows_of_sum-requires-clause-searches c =
    subst (λ (them : List Asked). All (λ search. search.cond ≡ c.args.cond.now) them) (sym c.loop-sum.invariant.stays) c.requires.searches

pub rows_of_sum-requires-clause-sum : goal.rows_of_sum-requires-clause-sum
rows_of_sum-requires-clause-sum c =
    subst IsSmallSum (sym (c.as_slice.ensures ∙ c.sum-item.is)) (c.requires.sums c.loop-sum.sum-index c.sum-item.result (omega arith))

pub keep_wanted-requires-clause-small : goal.keep_wanted-requires-clause-small
keep_wanted-requires-clause-small c =
    let small = subst IsSmallSum (sym (c.as_slice.ensures ∙ c.sum-item.is)) (c.requires.sums c.loop-sum.sum-index c.sum-item.result (omega arith)) in
    subst (λ found. All HasSmallSum found) (sym (c.as_slice-in-loop-sum.ensures.value ∙ c.in_ok-found.ensures.rows))
    (rows_small c.args.cond.now (sought c.loop-sum.searches) c.as_slice.result.now small)

pub returns-then-len-ge-MOST_ITEMS-clause-rows : goal.returns-then-len-ge-MOST_ITEMS-clause-rows
returns-then-len-ge-MOST_ITEMS-clause-rows c =
    let full : 64 ≤ length c.loop-sum.rows.items = omega arith in
    kept_full 64 c.loop-sum.rows.items
    (filter (is_wanted c.args.cond.now c.args.start.now)
    (flat_map (λ sum. map (row_in_piece c.args.piece.now) (rows_of_sum c.args.cond.now (sought c.args.searches.now) sum))
    (drop c.loop-sum.sum-index c.args.sums.now)))
    _ full c.loop-sum.invariant.few c.loop-sum.invariant.kept

pub loop-sum-preserved : goal.loop-sum-preserved
loop-sum-preserved c =
    let more : c.loop-sum.sum-index < length c.args.sums.now = omega arith in
    let found = c.as_slice-in-loop-sum.ensures.value ∙ c.in_ok-found.ensures.rows
    ∙ ap (λ (them : List Asked). rows_of_sum c.args.cond.now (sought them) c.as_slice.result.now) c.loop-sum.invariant.stays in
    record {
      kept = gathered_next (is_wanted c.args.cond.now c.args.start.now)
          (λ sum. map (row_in_piece c.args.piece.now) (rows_of_sum c.args.cond.now (sought c.args.searches.now) sum)) 64 c.loop-sum.sum-index
          c.args.sums.now c.sum-item.result _ c.loop-sum.rows.items c.keep_wanted.new.rows.items _ more c.sum-item.is
          (ap (λ sum. map (row_in_piece c.args.piece.now) (rows_of_sum c.args.cond.now (sought c.args.searches.now) sum)) c.as_slice.ensures)
          (c.in_ok-keep_wanted.ensures.kept
          ∙ ap (λ (rows : List Row). take 64 (c.loop-sum.rows.items ++ filter (is_wanted c.args.cond.now c.args.start.now) (map (row_in_piece c.args.piece.now) rows))) found)
          c.loop-sum.invariant.kept;
      few = c.in_ok-keep_wanted.ensures.few;
      stays = c.in_ok-found.ensures.stays ∙ c.loop-sum.invariant.stays;
    }

pub returns-clause-rows : goal.returns-clause-rows
returns-clause-rows c =
    kept_all (is_wanted c.args.cond.now c.args.start.now)
    (λ sums. flat_map (λ sum. map (row_in_piece c.args.piece.now) (rows_of_sum c.args.cond.now (sought c.args.searches.now) sum)) sums)
    64 c.loop-sum.sum-index c.args.sums.now c.loop-sum.rows.items _ (omega arith) c.loop-sum.invariant.few refl c.loop-sum.invariant.kept
