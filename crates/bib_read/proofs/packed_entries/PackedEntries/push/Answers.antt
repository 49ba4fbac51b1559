-- An entry that is put behind the others leaves them.
use Rattle.std.proofs.Common.{◌∙◌, ◌++◌, ◌∷◌, [], List, ap, subst, sym}
use Rattle.bib_read.specs.RawEntries.{AreWithin, RawEntry, entries_in}
use Rattle.bib_read.specs.declared.row.Row.{Row}
use Rattle.bib_read.proofs.PackedEntries.{entries_grown, entry_added, within_added, within_grown}
use Rattle.bib_read.proofs.PackedFields.{kept}
use Rattle.bib_read.proofs.packed_entries.PackedEntries.push.Goals as goal

pub returns-in_err-row-clause-err : goal.returns-in_err-row-clause-err
returns-in_err-row-clause-err c =
    kept c.from_residual.result
    (entries_grown c.self.inside.fields c.append.new.packed c.self.inside.rows.items c.append.ensures.grown c.self.invariant ∙ c.self.view_is)

pub invariant_of-self-in_err-push : goal.invariant_of-self-in_err-push
invariant_of-self-in_err-push c =
    subst (λ (l : List Row). AreWithin c.append.new.packed l) (sym c.in_err-push.ensures.items)
    (within_grown c.self.inside.fields c.append.new.packed c.self.inside.rows.items c.append.ensures.grown c.self.invariant)

pub returns-in_err-push-clause-err : goal.returns-in_err-push-clause-err
returns-in_err-push-clause-err c =
    kept c.from_residual-in_err-push.result
    (ap (λ (l : List Row). entries_in c.append.new.packed l) c.in_err-push.ensures.items
    ∙ entries_grown c.self.inside.fields c.append.new.packed c.self.inside.rows.items c.append.ensures.grown c.self.invariant
    ∙ c.self.view_is)

pub invariant_of-self-2 : goal.invariant_of-self-2
invariant_of-self-2 c =
    within_added c.self.inside.fields c.append.new.packed c.self.inside.rows.items c.push.new.self.items c.in_ok-row.row
    c.append.ensures.grown c.self.invariant c.in_ok-push.ensures.items c.in_ok-row.ensures.within

pub returns-clause-ok : goal.returns-clause-ok
returns-clause-ok c =
    let entry : RawEntry = record { key = c.args.key.now; entry_type = c.args.entry_type.now; fields = c.args.fields.now } in
    entry_added c.self.inside.fields c.append.new.packed c.self.inside.rows.items c.push.new.self.items c.in_ok-row.row entry
    c.append.ensures.grown c.self.invariant c.in_ok-push.ensures.items c.in_ok-row.ensures.entry
    ∙ ap (λ (l : List RawEntry). l ++ entry ∷ []) c.self.view_is
