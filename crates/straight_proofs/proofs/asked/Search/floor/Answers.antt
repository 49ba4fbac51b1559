-- The floor of a sum's one form is that of the sum.
use Rattle.std.proofs.Common.{◌≡◌, Option, IfOk, subst}
use Rattle.std.specs.Prelude.{ℤ}
use Rattle.straight_proofs.specs.Floors.{floor}
use Rattle.straight_proofs.specs.Asked.{Asked}
use Rattle.straight_proofs.proofs.Alike.{same_floor}
use Rattle.straight_proofs.proofs.asked.Search.floor.Goals as goal

pub returns-clause-greatest : goal.returns-clause-greatest
returns-clause-greatest c =
    subst (λ (asked : Asked). IfOk c.floor_within.result (λ found. found ≡ floor asked.cond asked.state c.args.sum.now)) c.self.view_is
    (subst (λ (wanted : Option ℤ). IfOk c.floor_within.result (λ result. result ≡ wanted))
    (same_floor 8 c.self.inside.known.cond.now c.self.inside.known.state.now c.in_ok-remainder.remainder c.args.sum.now c.in_ok-remainder.ensures.alike)
    c.floor_within.ensures.greatest)
