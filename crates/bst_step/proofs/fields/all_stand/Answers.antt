-- The fields of one entry more stand at their places, and in the end those of all do.
use Rattle.std.proofs.Common.{List, arith, subst, sym}
use Rattle.name_table.specs.declared.names.NameId.{NameId}
use Rattle.bst_step.specs.Places.{StandAt}
use Rattle.bst_step.proofs.FieldSteps.{all_entries_below, no_entry_below, one_more_entry}
use Rattle.bst_step.proofs.fields.all_stand.Goals as goal

pub loop-at-init : goal.loop-at-init
loop-at-init c = no_entry_below c.args.places.now c.args.list.now.entries

pub loop-at-preserved : goal.loop-at-preserved
loop-at-preserved c =
    one_more_entry c.args.places.now c.args.list.now.entries c.loop-at.at c.in-Some.entry c.loop-at.invariant (sym c.in-Some.ensures)
    (subst (λ (names : List NameId). StandAt c.args.places.now names) c.names.ensures (c.stand.ensures c.if-not-stand.false))

pub returns : goal.returns
returns c =
    λ holds. all_entries_below c.args.places.now c.args.list.now.entries c.loop-at.at (omega (arith, c.loop-at-test.false, c.len-at-end.ensures)) c.loop-at.invariant
