-- The closure compares the sort keys.
use Rattle.std.proofs.Common.{rules}
use Rattle.std.proofs.lemmas.Fn.{always_returns_same}
use Rattle.bst_step.specs.Variables.{names_in}
use Rattle.bst_step.proofs.SortSteps.{key_lt, key_order, row_marked, row_seen, rows_sorted, rows_with_marks}
use Rattle.bst_step.proofs.order.sort_rows.Goals as goal

pub returns-clause-sorted : goal.returns-clause-sorted
returns-clause-sorted c =
    λ entries.
    let seen = row_seen c.args.pool.now (names_in c.args.own.now) c.args.values.now entries in
    let marked = row_marked c.args.pool.now (names_in c.args.own.now) c.args.values.now entries in
    rows_sorted c.args.pool.now (names_in c.args.own.now) c.args.values.now entries c.args.rows.now.items c.sort_by.new.self.items
    (c.in_ok-sort_by.ensures.sorted (key_lt seen marked) (key_order seen marked) (always_returns_same _ _ _ (λ a r f k. search rules)))
    (c.in_ok-sort_by.ensures.stable (key_lt seen marked) (key_order seen marked) (always_returns_same _ _ _ (λ a r f k. search rules)))

pub returns-clause-marks : goal.returns-clause-marks
returns-clause-marks c =
    λ entries.
    let seen = row_seen c.args.pool.now (names_in c.args.own.now) c.args.values.now entries in
    let marked = row_marked c.args.pool.now (names_in c.args.own.now) c.args.values.now entries in
    rows_with_marks c.args.pool.now (names_in c.args.own.now) c.args.values.now entries c.args.rows.now.items c.sort_by.new.self.items
    (c.in_ok-sort_by.ensures.sorted (key_lt seen marked) (key_order seen marked) (always_returns_same _ _ _ (λ a r f k. search rules)))
    (c.in_ok-sort_by.ensures.stable (key_lt seen marked) (key_order seen marked) (always_returns_same _ _ _ (λ a r f k. search rules)))
