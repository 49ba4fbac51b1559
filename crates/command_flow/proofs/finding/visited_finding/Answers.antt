-- What the call comes to is what ITERATE and REVERSE do.
use Rattle.std.proofs.lemmas.Result.{err_from_is_err_and}
use Rattle.command_flow.proofs.CommandsFound.{visit_ok, visit_refused}
use Rattle.command_flow.proofs.finding.visited_finding.Goals as goal

pub returns-in_err-hints-clause-decides : goal.returns-in_err-hints-clause-decides
returns-in_err-hints-clause-decides c =
    let p = err_from_is_err_and c.from_residual.result c.from_residual.ensures.1 in
    rw (p.1, p.2)
    (visit_refused c.args.finding c.args.at.now.checker.now.style c.args.at.now.style.now c.args.at.now.checker.now.cert c.args.at.now.cond.now c.args.name c.args.at.now.command.place c.args.between
    c.nothing.result c.in_err-hints.field-0.0 c.requires.at.style c.requires.at.cond c.nothing.ensures c.in_err-hints.ensures.decides)

pub returns-clause-decides : goal.returns-clause-decides
returns-clause-decides c =
    visit_ok c.args.finding c.args.at.now.checker.now.style c.args.at.now.style.now c.args.at.now.checker.now.cert c.args.at.now.cond.now c.args.name c.args.at.now.command.place c.args.between
    c.nothing.result c.in_ok-hints.hints c.nothing-2.result c.nothing-3.result c.requires.at.style c.requires.at.cond c.nothing.ensures c.nothing-2.ensures
    c.nothing-3.ensures c.in_ok-hints.ensures.decides
