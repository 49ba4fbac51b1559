use Rattle.std.proofs.Common.{◌≡◌, ◌++◌}
use Rattle.sym_state.proofs.shared_list.SharedList.append.Given as goal

-- the list and the items that are left are all items
abbrev pub invariant-loop-item : goal.invariant-loop-item
invariant-loop-item g l = l.self ++ l.item-iterator.rest.items ≡ l.fn.self ++ l.fn.items.items
