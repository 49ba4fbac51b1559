-- The values that were written are renewed, and the entries are seen as they were.
use Rattle.std.proofs.Common.{List, length, subst, sym}
use Rattle.bst_step.specs.EntryStates.{EntriesWithin, EntryState}
use Rattle.bst_step.specs.Variables.{names_in}
use Rattle.bst_step.proofs.RenewedSteps.{table_end, table_marked, table_seen, table_whole, table_within}
use Rattle.bst_step.proofs.entry_states.EntryTable.renew.Goals as goal

pub renew-requires-clause-others : goal.renew-requires-clause-others
renew-requires-clause-others c =
    table_within (length c.args.pool.now.items) (names_in c.self.inside.own) c.self.inside.values c.self.inside.list.now.entries c.self.inside.rows.items
    c.self.invariant.0 (subst (λ (es : List EntryState). EntriesWithin (length c.args.pool.now.items) es) (sym c.self.view_is) c.requires.entries)

pub invariant_of-self : goal.invariant_of-self
invariant_of-self c = (
  table_whole c.args.pool.now.items c.renew.new.pool.items c.self.inside.values c.renew.new.others c.renew.ensures.others (names_in c.self.inside.own)
      c.self.inside.list.now.entries c.self.inside.rows.items c.self.invariant.0,
  c.self.invariant.1,
)

pub returns-clause-within : goal.returns-clause-within
returns-clause-within c =
    table_end c.args.pool.now.items c.renew.new.pool.items c.self.inside.values c.renew.new.others c.renew.ensures.others (names_in c.self.inside.own)
    c.self.inside.list.now.entries c.self.inside.rows.items

pub returns-clause-seen : goal.returns-clause-seen
returns-clause-seen c =
    table_seen c.args.pool.now.items c.renew.new.pool.items c.self.inside.values c.renew.new.others c.renew.ensures.others (names_in c.self.inside.own)
    c.self.inside.list.now.entries c.self.inside.rows.items c.args.self.now c.self.view_is

pub returns-clause-marks : goal.returns-clause-marks
returns-clause-marks c =
    table_marked c.args.pool.now.items c.renew.new.pool.items c.self.inside.values c.renew.new.others c.renew.ensures.others (names_in c.self.inside.own)
    c.self.inside.list.now.entries c.self.inside.rows.items c.args.self.now c.self.view_is
