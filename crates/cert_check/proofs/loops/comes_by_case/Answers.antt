use Rattle.std.proofs.lemmas.Result.{err_from_is_err_and}
use Rattle.cert_check.specs.Uses.{comes_by}
use Rattle.cert_check.proofs.LoopSteps.{step_refused}
use Rattle.cert_check.proofs.loops.comes_by_case.Goals as goal

-- the piece isn't shown
pub returns-in_err-comes-in-Some-clause-comes : goal.returns-in_err-comes-in-Some-clause-comes
returns-in_err-comes-in-Some-clause-comes g c =
    let p = err_from_is_err_and c.from_residual.result c.from_residual.ensures.1 in
    rw (p.1, p.2, c.in-Some.is)
    (step_refused c.args.at.now.place
    (comes_by c.args.unit.now c.args.at.now.scope.now.cert.cond c.in-Some.case.now c.args.state.now c.args.course.now.hints)
    _ c.in_err-comes-in-Some.field-0.0 c.in_err-comes-in-Some.ensures.comes)
