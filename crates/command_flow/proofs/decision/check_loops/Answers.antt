-- One loop more is checked, or its rule fails.
use Rattle.std.proofs.Common.{◌∙◌}
use Rattle.std.proofs.lemmas.Result.{err_from_is_err_and}
use Rattle.cert_check.specs.Units.{loop_checked}
use Rattle.command_flow.proofs.Deciding.{next_unit, unit_refused}
use Rattle.command_flow.proofs.decision.check_loops.Goals as goal

pub returns-in_err-check_loop : goal.returns-in_err-check_loop
returns-in_err-check_loop c =
    let p = err_from_is_err_and c.from_residual.result c.from_residual.ensures.1 in
    let checker = c.args.checker.now in
    rw (p.1, p.2)
    (unit_refused (loop_checked checker.style checker.cert) c.loop-index.index checker.cert.loops c.in_err-check_loop.field-0.0 c.loop-index.invariant
    c.in_err-check_loop.ensures)

pub loop-index-preserved : goal.loop-index-preserved
loop-index-preserved c =
    let checker = c.args.checker.now in
    next_unit (loop_checked checker.style checker.cert) c.loop-index.index checker.cert.loops c.in_ok-check_loop.ensures ∙ c.loop-index.invariant
