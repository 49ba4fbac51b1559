use Rattle.std.proofs.Common.{ap, None}
use Rattle.cert_check.specs.Walks.{Over, scope_of}
use Rattle.cert_check.proofs.UnitSteps.{none_checks, number_checks}
use Rattle.cert_check.proofs.checker.Checker.check_summary.Goals as goal

pub returns-in-Some : goal.returns-in-Some
returns-in-Some c =
    number_checks c.args.self.now.style c.args.self.now.cert c.args.index (scope_of c.confined.result None) c.in-Some.summary.now c.summary_checked.result c.in-Some.ensures
    (ap (λ (o : Over). o.style) c.confined.ensures.scope) (ap (λ (o : Over). o.cert) c.confined.ensures.scope) c.summary_checked.ensures

pub returns-in-None : goal.returns-in-None
returns-in-None c = none_checks c.args.self.now.style c.args.self.now.cert c.args.index c.in-None.ensures
