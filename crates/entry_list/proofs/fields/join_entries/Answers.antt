use Rattle.std.proofs.Common.{◌∙◌, ◌∷◌, [], ap, sym, subst}
use Rattle.std.specs.List.{AllByRecursion}
use Rattle.entry_store.specs.PackedEntries.{Alike}
use Rattle.entry_list.specs.Bytes.{HasBytes}
use Rattle.entry_list.specs.Fields.{joined_entry}
use Rattle.entry_list.specs.Tables.{TellsParent, entry_by}
use Rattle.entry_list.proofs.Fitting.{entry_same}
use Rattle.entry_list.proofs.Keyed.{all_append, all_at}
use Rattle.entry_list.proofs.Lists.{map_more}
use Rattle.entry_list.proofs.fields.join_entries.Goals as goal

pub loop-chosen-preserved : goal.loop-chosen-preserved
loop-chosen-preserved c =
    let declared = c.args.declared.now in
    let table = c.args.table.now in
    let list = c.args.list.now in
    let chosen = c.chosen-item.result in
    let keys = c.args.listed.now in
    let entry = entry_by keys declared table chosen in
    let told : TellsParent keys table list chosen =
    subst (TellsParent keys table list) (sym c.chosen-item.is)
    (all_at (TellsParent keys table list) list c.loop-chosen.chosen-index chosen c.requires c.loop-chosen-test.true) in
    let more = ap (λ (a : Alike). a.entries) c.in_ok-join_entry.ensures.joined in
    record {
      joined =
          map_more (joined_entry declared table list) list c.loop-chosen.chosen-index chosen entry c.loop-chosen.found.entries _
          c.loop-chosen-test.true c.chosen-item.is c.loop-chosen.invariant.joined more (entry_same keys list declared table chosen told);
      names = ap (λ (a : Alike). a.names) c.in_ok-join_entry.ensures.joined ∙ c.loop-chosen.invariant.names;
      bytes =
          subst (AllByRecursion HasBytes) (sym more)
          (all_append HasBytes c.loop-chosen.found.entries (entry ∷ []) c.loop-chosen.invariant.bytes (c.in_ok-join_entry.ensures.bytes, tt));
    }
