use Rattle.std.proofs.Common.{◌≡◌, ◌+◌, ◌++◌, ◌≤◌, List, length}
use Rattle.sym_state.proofs.shared_list.SharedList.get.Given as goal

-- the items that are left and those that were passed over are all, and as many are left as the counter tells
abbrev pub invariant-loop : goal.invariant-loop
invariant-loop g l = record {
  passed : List g.row.T.Denot;
  all : l.items ++ passed ≡ l.self;
  left : length l.items + l.counter ≡ l.index + 1 + length l.self;
  within : l.index + 1 ≤ l.counter;
}
