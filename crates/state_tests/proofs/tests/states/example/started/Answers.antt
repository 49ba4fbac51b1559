-- The state of the example is well made, so within its bounds.
use Rattle.std.proofs.Common.{[]}
use Rattle.std.proofs.lemmas.List.Elements.{All-cons, All-nil}
use Rattle.std.proofs.lemmas.Result.{IfOk-weaker}
use Rattle.sym_state.specs.Starting.{IsFit}
use Rattle.state_tests.proofs.tests.states.example.started.Goals as goal

pub returns : goal.returns
returns c =
    let style = c.in_ok-style.style in
    IfOk-weaker c.start.result _ _ (λ state made. made.bounds)
    (c.start.ensures.made (All-cons (IsFit style) c.in_ok-exact_n.field-0 [] (c.in_ok-exact_n.ensures.fit style) (All-nil (IsFit style))))
