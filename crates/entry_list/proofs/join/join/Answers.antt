use Rattle.std.proofs.Common.{◌≡◌, ◌∙◌, ap, subst, sym}
use Rattle.bst_meaning.specs.Entries.{Fits}
use Rattle.bst_meaning.specs.EntryLists.{EntryList}
use Rattle.entry_list.specs.declared.joined.Joined.{Joined}
use Rattle.entry_list.specs.Parents.{whole_list}
use Rattle.entry_list.proofs.Fitting.{entries_are, joined_is, list_fits, warnings_are, whole_is}
use Rattle.entry_list.proofs.join.join.Goals as goal

pub returns-clause-joined : goal.returns-clause-joined
returns-clause-joined c =
    let items = c.args.items.now in
    let table : c.new-table.result ≡ c.args.database.now.entries = c.new-table.ensures in
    let whole : c.in_ok-whole.whole.list.items ≡ whole_list items c.new-table.result =
    whole_is items _ _ _ c.in_ok-cited.ensures.list c.in_ok-whole.ensures.list in
    ap (λ (l : EntryList). let j : Joined = record { list = l; warnings = c.in_ok-whole.whole.warnings } in j) c.new.ensures
    ∙ joined_is c.args.style.now items c.args.database.now _ _ _ _ table
    (entries_are c.args.style.now items _ _ c.as_slice.result.now c.in_ok-entries.entries.entries table
    (c.as_slice.ensures.value ∙ whole) c.in_ok-entries.ensures.joined)
    (c.in_ok-preamble.ensures.copied ∙ c.as_slice-2.ensures)
    (warnings_are items _ _ _ _ whole c.in_ok-cited.ensures.warnings c.in_ok-whole.ensures.warnings)

pub returns-clause-fits : goal.returns-clause-fits
returns-clause-fits c =
    let items = c.args.items.now in
    let table : c.new-table.result ≡ c.args.database.now.entries = c.new-table.ensures in
    subst (Fits c.args.style.now) (sym c.new.ensures)
    (list_fits c.args.style.now items c.args.database.now.entries c.in_ok-entries.entries.entries _
    c.requires.items c.requires.keys
    (entries_are c.args.style.now items _ _ c.as_slice.result.now c.in_ok-entries.entries.entries table
    (c.as_slice.ensures.value ∙ whole_is items _ _ _ c.in_ok-cited.ensures.list c.in_ok-whole.ensures.list)
    c.in_ok-entries.ensures.joined)
    c.in_ok-entries.ensures.bytes c.in_ok-preamble.ensures.bytes)
