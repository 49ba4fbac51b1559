use Rattle.std.proofs.Common.{◌≡◌, ◌++◌, filter, drop}
use Rattle.entry_list.specs.Parents.{chosen_of, is_chosen}
use Rattle.entry_list.proofs.Naming.{undone}
use Rattle.entry_list.proofs.parents.take_parents.Given as goal

abbrev pub invariant-loop-parent : goal.invariant-loop-parent
invariant-loop-parent l =
    l.found.items ++ filter (is_chosen l.twice l.listed) (undone l.done (drop l.parent-index l.parents))
    ≡ l.initial.found.items ++ chosen_of l.twice l.listed l.parents
