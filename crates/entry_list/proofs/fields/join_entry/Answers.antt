-- The entry is the one of which the keys say whether its parent is in the list.
use Rattle.std.proofs.Common.{ap, subst}
use Rattle.std.specs.Option.{option_map}
use Rattle.std.specs.Prelude.{OnOk}
use Rattle.bst_meaning.specs.EntryLists.{Entry}
use Rattle.entry_list.specs.Bytes.{HasBytes}
use Rattle.entry_list.specs.Keys.{Listed}
use Rattle.entry_list.proofs.Packed.{told_entry}
use Rattle.entry_list.proofs.fields.join_entry.Goals as goal

pub returns-clause-bytes : goal.returns-clause-bytes
returns-clause-bytes c =
    subst (λ (e : Entry). OnOk c.append_entry.result (HasBytes e))
    (told_entry c.args.listed.now c.args.declared.now c.args.table.now c.args.chosen.now c.chosen.inside.entry c.in_ok-parent.parent
    (option_map (λ e. e.now) c.as_ref.result) (option_map (λ e. e.now) c.as_ref-2.result) c.in_ok-keeps.keeps
    (ap (λ (l : Listed). l.entry) c.chosen.view_is) c.in_ok-parent.ensures c.as_ref.ensures.value c.in_ok-keeps.ensures c.as_ref-2.ensures.value)
    c.append_entry.ensures.bytes
