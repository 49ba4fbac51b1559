use Rattle.std.proofs.Common.{◌≡◌, ◌++◌, flat_map, drop}
use Rattle.entry_list.specs.Citing.{asked_for, cited_list, no_entries, not_found}
use Rattle.entry_list.proofs.Unseen.{unseen}
use Rattle.entry_list.proofs.citing.cited_list.Given as goal

abbrev pub invariant-loop-item : goal.invariant-loop-item
invariant-loop-item l =
    record {
      list : l.cited.list.items ++ flat_map (asked_for l.items l.table) (unseen l.seen (drop l.item-index l.items))
          ≡ cited_list l.items l.table;
      warnings : l.cited.warnings ++ flat_map (not_found l.table) (unseen l.seen (drop l.item-index l.items))
          ≡ no_entries l.items l.table;
    }
