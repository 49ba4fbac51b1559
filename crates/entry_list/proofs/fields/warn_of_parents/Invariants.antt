use Rattle.std.proofs.Common.{◌≡◌, ◌++◌, flat_map, drop}
use Rattle.entry_list.specs.Fields.{without_parent}
use Rattle.entry_list.proofs.fields.warn_of_parents.Given as goal

abbrev pub invariant-loop-chosen : goal.invariant-loop-chosen
invariant-loop-chosen l =
    l.warnings ++ flat_map (without_parent l.table) (drop l.chosen-index l.list)
    ≡ l.initial.warnings ++ flat_map (without_parent l.table) l.list
