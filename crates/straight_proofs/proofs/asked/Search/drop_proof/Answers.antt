-- What is found shows that the case can't come about, by few references.
use Rattle.std.proofs.Common.{◌≡◌, true, IfOk, subst}
use Rattle.std.specs.Option.{IfSome}
use Rattle.sym_state.specs.Cases.{absurdity}
use Rattle.sym_state.specs.References.{shows}
use Rattle.straight_proofs.specs.Asked.{Asked}
use Rattle.straight_proofs.proofs.AddingUp.{drop_is_short, drop_shows}
use Rattle.straight_proofs.proofs.asked.Search.drop_proof.Goals as goal

pub returns-clause-shown : goal.returns-clause-shown
returns-clause-shown c =
    subst (λ (asked : Asked). IfOk c.first_drop.result (λ found. IfSome found (λ proof. shows asked.cond asked.state proof absurdity ≡ true)))
    c.self.view_is
    (drop_shows c.self.inside.known.cond.now c.self.inside.known.state.now c.first_drop.result c.first_drop.ensures.first)

pub returns-clause-few : goal.returns-clause-few
returns-clause-few c = drop_is_short c.self.inside.known.cond.now c.self.inside.known.state.now c.first_drop.result c.first_drop.ensures.first
