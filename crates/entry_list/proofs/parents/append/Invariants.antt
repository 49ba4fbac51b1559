use Rattle.std.proofs.Common.{◌≡◌, ◌++◌, take}
use Rattle.entry_list.proofs.parents.append.Given as goal

abbrev pub invariant-loop-chosen : goal.invariant-loop-chosen
invariant-loop-chosen l =
    l.list.items ≡ l.initial.list.items ++ take l.chosen-index l.more
