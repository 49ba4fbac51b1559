-- What the call comes to is what EXECUTE does.
use Rattle.std.proofs.lemmas.Result.{err_from_is_err_and}
use Rattle.command_flow.proofs.CommandsFound.{execute_ok, execute_refused}
use Rattle.command_flow.proofs.finding.executed_finding.Goals as goal

pub returns-in_err-hints-clause-decides : goal.returns-in_err-hints-clause-decides
returns-in_err-hints-clause-decides c =
    let p = err_from_is_err_and c.from_residual.result c.from_residual.ensures.1 in
    rw (p.1, p.2)
    (execute_refused c.args.finding c.args.at.now.checker.now.style c.args.at.now.style.now c.args.at.now.checker.now.cert c.args.at.now.cond.now c.args.name c.args.at.now.command.place c.args.between
    c.from_ref-starts.result.now c.in_err-hints.field-0.0 c.requires.at.style c.requires.at.cond c.from_ref-starts.ensures.value c.in_err-hints.ensures.decides)

pub returns-clause-decides : goal.returns-clause-decides
returns-clause-decides c =
    execute_ok c.args.finding c.args.at.now.checker.now.style c.args.at.now.style.now c.args.at.now.checker.now.cert c.args.at.now.cond.now c.args.name c.args.at.now.command.place c.args.between
    c.from_ref-starts.result.now c.in_ok-hints.hints c.nothing.result c.requires.at.style c.requires.at.cond c.from_ref-starts.ensures.value c.nothing.ensures
    c.in_ok-hints.ensures.decides
