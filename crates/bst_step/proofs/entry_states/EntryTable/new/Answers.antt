-- The places and values that were made are those of the list.
use Rattle.std.proofs.Common.{◌∙◌, [], List, ap, map, subst, sym}
use Rattle.bst_step.specs.EntryStates.{EntriesWithin, EntryState, state_in}
use Rattle.bst_step.specs.Marks.{AreLentIn}
use Rattle.bst_step.proofs.MarkSteps.{entries_lent}
use Rattle.bst_step.proofs.OpenedSteps.{opened_within, rows_opened, states_opened, table_opened}
use Rattle.bst_step.proofs.entry_states.EntryTable.new.Goals as goal

pub invariant_of-result : goal.invariant_of-result
invariant_of-result c = (
  table_opened c.args.own c.args.list.now.entries c.values.result.now c.in_ok-values.values c.in_ok-rows.rows.items c.len-count.result c.len-count.ensures
      c.in_ok-rows.ensures c.values.ensures c.in_ok-values.ensures,
  c.standing.ensures,
)

pub returns-clause-within : goal.returns-clause-within
returns-clause-within c =
    subst (λ (es : List EntryState). EntriesWithin 0 es)
    (sym (rows_opened c.args.own c.args.list.now.entries c.values.result.now c.in_ok-values.values c.in_ok-rows.rows.items c.len-count.result c.len-count.ensures
    c.in_ok-rows.ensures c.values.ensures c.in_ok-values.ensures)) (opened_within 0 c.args.own 0 c.args.list.now.entries c.requires.within)

pub returns-clause-marks : goal.returns-clause-marks
returns-clause-marks c =
    subst (λ (es : List EntryState). AreLentIn es)
    (sym (rows_opened c.args.own c.args.list.now.entries c.values.result.now c.in_ok-values.values c.in_ok-rows.rows.items c.len-count.result c.len-count.ensures
    c.in_ok-rows.ensures c.values.ensures c.in_ok-values.ensures)) (entries_lent c.args.own 0 c.args.list.now.entries c.requires.marks)

pub returns-clause-opened : goal.returns-clause-opened
returns-clause-opened c =
    ap (λ (es : List EntryState). map (state_in []) es)
    (rows_opened c.args.own c.args.list.now.entries c.values.result.now c.in_ok-values.values c.in_ok-rows.rows.items c.len-count.result c.len-count.ensures
    c.in_ok-rows.ensures c.values.ensures c.in_ok-values.ensures)
    ∙ states_opened c.args.own 0 c.args.list.now.entries
