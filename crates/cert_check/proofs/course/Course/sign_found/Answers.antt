use Rattle.cert_check.proofs.CasesWithin.{cases_are}
use Rattle.cert_check.proofs.course.Course.sign_found.Goals as goal

pub returns-clause-cases : goal.returns-clause-cases
returns-clause-cases g c =
    cases_are c.args.at.now.scope.now.cert.cond c.args.at.now.place c.args.rest.now c.args.sym c.in_ok-cases.cases.items c.new-left.result c.sign_cases.new.hints
    c.in_ok-cases.ensures.gives
