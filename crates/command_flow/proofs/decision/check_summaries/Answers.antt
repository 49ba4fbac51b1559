-- One summary more is checked, or its rule fails.
use Rattle.std.proofs.Common.{◌∙◌}
use Rattle.std.proofs.lemmas.Result.{err_from_is_err_and}
use Rattle.cert_check.specs.Units.{summary_checked}
use Rattle.command_flow.proofs.Deciding.{next_unit, unit_refused}
use Rattle.command_flow.proofs.decision.check_summaries.Goals as goal

pub returns-in_err-check_summary : goal.returns-in_err-check_summary
returns-in_err-check_summary c =
    let p = err_from_is_err_and c.from_residual.result c.from_residual.ensures.1 in
    let checker = c.args.checker.now in
    rw (p.1, p.2)
    (unit_refused (summary_checked checker.style checker.cert) c.loop-index.index checker.cert.summaries c.in_err-check_summary.field-0.0 c.loop-index.invariant
    c.in_err-check_summary.ensures)

pub loop-index-preserved : goal.loop-index-preserved
loop-index-preserved c =
    let checker = c.args.checker.now in
    next_unit (summary_checked checker.style checker.cert) c.loop-index.index checker.cert.summaries c.in_ok-check_summary.ensures ∙ c.loop-index.invariant
