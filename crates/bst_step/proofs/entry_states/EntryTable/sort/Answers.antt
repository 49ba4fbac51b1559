-- The rows are ordered over the same values.
use Rattle.std.proofs.Common.{◌≡◌, List, length, map, subst, sym}
use Rattle.std.specs.Prelude.{OnOk}
use Rattle.bst_meaning.specs.Sorting.{sorted}
use Rattle.bst_step.specs.EntryStates.{EntriesWithin, EntryState, state_in, states_at}
use Rattle.bst_step.specs.Marks.{marked_in, sorted_marks}
use Rattle.bst_step.specs.Variables.{names_in}
use Rattle.bst_step.proofs.RenewedSteps.{states_within, table_within}
use Rattle.bst_step.proofs.TableSteps.{table_permuted}
use Rattle.bst_step.proofs.entry_states.EntryTable.sort.Goals as goal

pub invariant_of-self : goal.invariant_of-self
invariant_of-self c = (
  table_permuted (length (names_in c.self.inside.own)) c.self.inside.values c.self.inside.list.now.entries c.self.inside.rows.items
      c.sort_rows.new.rows.items c.sort_rows.ensures.permuted c.self.invariant.0,
  c.self.invariant.1,
)

pub returns-clause-within : goal.returns-clause-within
returns-clause-within c =
    λ end within. states_within end (names_in c.self.inside.own) c.self.inside.values c.self.inside.list.now.entries c.sort_rows.new.rows.items
    (table_within end (names_in c.self.inside.own) c.self.inside.values c.self.inside.list.now.entries c.self.inside.rows.items
    c.self.invariant.0 (subst (λ (es : List EntryState). EntriesWithin end es) (sym c.self.view_is) within))

pub returns-clause-sorted : goal.returns-clause-sorted
returns-clause-sorted c =
    subst (λ (es : List EntryState). OnOk c.sort_rows.result
    (map (state_in c.args.pool.now) (states_at (names_in c.self.inside.own) c.self.inside.values c.self.inside.list.now.entries c.sort_rows.new.rows.items)
    ≡ sorted (map (state_in c.args.pool.now) es))) c.self.view_is
    (c.sort_rows.ensures.sorted c.self.inside.list.now.entries)

pub returns-clause-marks : goal.returns-clause-marks
returns-clause-marks c =
    subst (λ (es : List EntryState). OnOk c.sort_rows.result
    (map marked_in (states_at (names_in c.self.inside.own) c.self.inside.values c.self.inside.list.now.entries c.sort_rows.new.rows.items)
    ≡ sorted_marks (map (state_in c.args.pool.now) es) (map marked_in es))) c.self.view_is
    (c.sort_rows.ensures.marks c.self.inside.list.now.entries)
