use Rattle.std.proofs.Common.{◌≡◌, ◌++◌, drop}
use Rattle.entry_list.specs.Parents.{parents_of}
use Rattle.entry_list.proofs.parents.parents_of.Given as goal

abbrev pub invariant-loop-chosen : goal.invariant-loop-chosen
invariant-loop-chosen l =
    l.found.items ++ parents_of l.table (drop l.chosen-index l.list) ≡ parents_of l.table l.list
