use Rattle.std.proofs.Common.{◌≡◌, ◌++◌, drop}
use Rattle.entry_list.specs.Citing.{uncited}
use Rattle.entry_list.proofs.citing.put_uncited.Given as goal

abbrev pub invariant-loop-at : goal.invariant-loop-at
invariant-loop-at l =
    l.list.items ++ uncited l.items (drop l.at l.table) ≡ l.initial.list.items ++ uncited l.items l.table
