-- What the call comes to is what EXECUTE does.
use Rattle.std.proofs.Common.{[], ◌∷◌, refl}
use Rattle.std.proofs.lemmas.Result.{err_from_is_err_and}
use Rattle.command_flow.proofs.Flowing.{execute_calls, executed_ok, executed_refused}
use Rattle.command_flow.proofs.flow.executed.Goals as goal

pub returns-in_err-execute_walked-clause-decides : goal.returns-in_err-execute_walked-clause-decides
returns-in_err-execute_walked-clause-decides c =
    let p = err_from_is_err_and c.from_residual.result c.from_residual.ensures.1 in
    rw (p.1, p.2)
    (executed_refused c.args.at.now.checker.now.style c.args.at.now.checker.now.cert c.args.name c.args.at.now.command.place c.args.parts c.args.between _
    c.in_err-execute_walked.field-0.0
    (execute_calls c.args.at.now.checker.now.style c.args.at.now.style.now c.args.at.now.checker.now.cert c.args.at.now.cond.now c.args.name c.args.at.now.command.place c.args.parts c.args.between _
    (c.args.between.globals ∷ []) (c.args.parts.after ∷ []) c.requires.at.style c.requires.at.cond refl refl refl) c.in_err-execute_walked.ensures)

pub returns-clause-decides : goal.returns-clause-decides
returns-clause-decides c =
    executed_ok c.args.at.now.checker.now.style c.args.at.now.checker.now.cert c.args.name c.args.at.now.command.place c.args.parts c.args.between _ []
    (execute_calls c.args.at.now.checker.now.style c.args.at.now.style.now c.args.at.now.checker.now.cert c.args.at.now.cond.now c.args.name c.args.at.now.command.place c.args.parts c.args.between _
    (c.args.between.globals ∷ []) (c.args.parts.after ∷ []) c.requires.at.style c.requires.at.cond refl refl refl) c.in_ok-execute_walked.ensures
