use Rattle.std.proofs.Common.{◌≡◌, Bool, reverse, length}
use Rattle.std.specs.Borrow.{Bor}
use Rattle.std.specs.List.{find}
use Rattle.sym_state.proofs.shared_list.SharedList.rfind.Given as goal

-- the last that passes among the items that are left is the last of all
abbrev pub invariant-loop-item : goal.invariant-loop-item
invariant-loop-item g l =
    (passes : g.row.T.Denot → Bool) → ((item : Bor g.row.T.Denot) (r : Bool) → goal.F-post g l.test item r → r ≡ passes item.now)
    → find passes (reverse l.left) ≡ find passes (reverse l.self)

abbrev pub decreases-loop-item : goal.decreases-loop-item
decreases-loop-item g l = length l.left
