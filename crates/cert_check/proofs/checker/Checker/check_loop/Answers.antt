use Rattle.std.proofs.Common.{ap, None}
use Rattle.cert_check.specs.Walks.{Over, scope_of}
use Rattle.cert_check.proofs.TurnSteps.{loop_checks, no_loop}
use Rattle.cert_check.proofs.checker.Checker.check_loop.Goals as goal

pub returns-in-Some : goal.returns-in-Some
returns-in-Some c =
    loop_checks c.args.self.now.style c.args.self.now.cert c.args.index (scope_of c.confined.result None) c.in-Some.one.now c.loop_checked.result c.in-Some.ensures
    (ap (λ (o : Over). o.style) c.confined.ensures.scope) (ap (λ (o : Over). o.cert) c.confined.ensures.scope) c.loop_checked.ensures

pub returns-in-None : goal.returns-in-None
returns-in-None c = no_loop c.args.self.now.style c.args.self.now.cert c.args.index c.in-None.ensures
