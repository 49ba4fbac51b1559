use Rattle.std.proofs.Common.{◌≡◌, length, option_map, Bool}
use Rattle.std.specs.Borrow.{Bor}
use Rattle.std.specs.List.{find}
use Rattle.std.specs.Option.{option_or}
use Rattle.sym_state.proofs.shared_list.SharedList.find.Given as goal

-- what is found among the items that are left comes before what is found
abbrev pub invariant-loop-item : goal.invariant-loop-item
invariant-loop-item g l =
    (passes : g.row.T.Denot → Bool) → ((item : Bor g.row.T.Denot) (r : Bool) → goal.F-post g l.test item r → r ≡ passes item.now)
    → option_or (find passes l.left) (option_map (λ item. item.now) l.found) ≡ find passes l.self

abbrev pub decreases-loop-item : goal.decreases-loop-item
decreases-loop-item g l = length l.left
