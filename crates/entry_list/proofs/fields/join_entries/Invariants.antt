use Rattle.std.proofs.Common.{◌≡◌, map, take}
use Rattle.entry_list.specs.Bytes.{HaveBytes}
use Rattle.entry_list.specs.Fields.{joined_entry}
use Rattle.entry_list.proofs.fields.join_entries.Given as goal

-- the entries so far are joined, have the fields of the style, and are bytes
abbrev pub invariant-loop-chosen : goal.invariant-loop-chosen
invariant-loop-chosen l =
    record {
      joined : l.found.entries ≡ map (joined_entry l.declared l.table l.list) (take l.chosen-index l.list);
      names : l.found.names ≡ map (λ field. field.id) l.declared;
      bytes : HaveBytes l.found.entries;
    }
