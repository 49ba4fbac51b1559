use Rattle.cert_check.proofs.CasesWithin.{given_cases}
use Rattle.cert_check.proofs.course.Course.sign.Goals as goal

pub returns-in-None-clause-cases : goal.returns-in-None-clause-cases
returns-in-None-clause-cases g c =
    given_cases (λ cases. cases.items) c.args.at.now.scope.now.cert.cond c.args.at.now.place c.args.rest.now c.args.sym c.args.self.now.hints c.above_in.new.self.hints
    c.above_in.result c.above_in.ensures.takes
