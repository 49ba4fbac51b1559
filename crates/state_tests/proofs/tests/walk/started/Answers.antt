-- The state of the walk is well made.
use Rattle.std.proofs.Common.{[]}
use Rattle.std.proofs.lemmas.List.Elements.{All-cons, All-nil}
use Rattle.sym_state.specs.Starting.{IsFit}
use Rattle.state_tests.proofs.tests.walk.started.Goals as goal

pub returns : goal.returns
returns c =
    let style = c.args.style.now in
    c.start.ensures.made (All-cons (IsFit style) c.in_ok-nonblank_s.field-0 [] (c.in_ok-nonblank_s.ensures.fit style) (All-nil (IsFit style)))
