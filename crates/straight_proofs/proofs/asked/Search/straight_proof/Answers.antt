-- What is found shows the goal, by few references.
use Rattle.std.proofs.Common.{◌≡◌, true, IfOk, subst}
use Rattle.std.specs.Option.{IfSome}
use Rattle.sym_state.specs.References.{shows}
use Rattle.straight_proofs.specs.Asked.{Asked}
use Rattle.straight_proofs.proofs.AddingUp.{straight_is_short, straight_shows}
use Rattle.straight_proofs.proofs.asked.Search.straight_proof.Goals as goal

pub returns-clause-shown : goal.returns-clause-shown
returns-clause-shown c =
    subst (λ (asked : Asked). IfOk c.first_proof.result (λ found. IfSome found (λ proof. shows asked.cond asked.state proof c.args.goal.now ≡ true)))
    c.self.view_is
    (straight_shows c.self.inside.known.cond.now c.self.inside.known.state.now c.args.goal.now c.first_proof.result c.first_proof.ensures.first)

pub returns-clause-few : goal.returns-clause-few
returns-clause-few c =
    straight_is_short c.self.inside.known.cond.now c.self.inside.known.state.now c.args.goal.now c.first_proof.result c.first_proof.ensures.first
