-- The field is that of the entry of the row at the place, whose fields stand as those of all entries do.
use Rattle.std.proofs.Common.{◌∙◌, None, Some, ap, slice_get}
use Rattle.bst_meaning.specs.Machine.{field_in}
use Rattle.bst_step.proofs.TableSteps.{entry_seen, fields_stand}
use Rattle.bst_step.proofs.entry_states.EntryTable.field.Goals as goal

pub field_of-requires : goal.field_of-requires
field_of-requires c =
    fields_stand c.self.inside.list.now.entries c.self.inside.places (slice_get c.as_slice.result.now c.args.at) c.in-Some.entry c.in-Some.ensures
    c.self.invariant.1

pub returns-in-Some : goal.returns-in-Some
returns-in-Some c =
    ap Some c.field_of.ensures
    ∙ entry_seen _ _ _ _ _ _ _ c.args.at (Some c.in-Some.entry) (λ e. field_in c.args.name e.fields) c.self.invariant.0 c.self.view_is
    c.as_slice.ensures.value c.in-Some.ensures

pub returns-in-None : goal.returns-in-None
returns-in-None c =
    entry_seen _ _ _ _ _ _ _ c.args.at None (λ e. field_in c.args.name e.fields) c.self.invariant.0 c.self.view_is c.as_slice.ensures.value
    c.in-None.ensures
