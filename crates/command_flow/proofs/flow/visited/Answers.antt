-- What the calls come to is what ITERATE and REVERSE do.
use Rattle.std.proofs.Common.{◌≡◌, [], sym, subst, ap, refl}
use Rattle.std.proofs.lemmas.Result.{err_from_is_err_and}
use Rattle.sym_state.specs.Positions.{AtNext, AtEnd}
use Rattle.command_flow.specs.Between.{piece_moved}
use Rattle.command_flow.specs.Ready.{AreReady}
use Rattle.command_flow.specs.declared.between.Between.{Between}
use Rattle.command_flow.proofs.Flowing.{begins_refused, ok_has, visits_ok, visits_refused}
use Rattle.command_flow.proofs.Ready.{ready_moved}
use Rattle.command_flow.proofs.flow.visited.Goals as goal

pub returns-in_err-visit_begins-clause-decides : goal.returns-in_err-visit_begins-clause-decides
returns-in_err-visit_begins-clause-decides c =
    let p = err_from_is_err_and c.from_residual.result c.from_residual.ensures.1 in
    rw (p.1, p.2)
    (begins_refused c.args.at.now.checker.now.style c.args.at.now.style.now c.args.at.now.checker.now.cert c.args.at.now.cond.now c.args.name c.args.at.now.command.place c.args.parts c.args.between
    c.in_err-visit_begins.field-0.0 c.requires.at.style c.requires.at.cond c.in_err-visit_begins.ensures.begins)

pub returns-in_err-visits_kept-clause-decides : goal.returns-in_err-visits_kept-clause-decides
returns-in_err-visits_kept-clause-decides c =
    let p = err_from_is_err_and c.from_residual-in_err-visits_kept.result c.from_residual-in_err-visits_kept.ensures.1 in
    rw (p.1, p.2)
    (visits_refused c.args.at.now.checker.now.style c.args.at.now.style.now c.args.at.now.checker.now.cert c.args.at.now.cond.now c.args.name c.args.at.now.command.place c.args.parts c.args.between
    (piece_moved AtNext c.args.parts.visit) _ c.in_err-visits_kept.field-0.0 c.requires.at.style c.requires.at.cond refl
    c.in_ok-visit_begins.ensures.begins c.in_err-visits_kept.ensures)

pub returns-clause-decides : goal.returns-clause-decides
returns-clause-decides c =
    let stands : Between = record { globals = piece_moved AtEnd c.args.parts.visit; entry = c.args.parts.keeps } in
    let same = ok_has (λ (b : Between). b ≡ stands) c.after_visits.result c.in_ok-after.after c.in_ok-after.ensures c.after_visits.ensures in
    visits_ok c.args.at.now.checker.now.style c.args.at.now.style.now c.args.at.now.checker.now.cert c.args.at.now.cond.now c.args.name c.args.at.now.command.place c.args.parts c.args.between
    (piece_moved AtNext c.args.parts.visit) c.in_ok-after.after.globals c.in_ok-after.after.entry _ [] c.requires.at.style c.requires.at.cond refl
    c.in_ok-visit_begins.ensures.begins c.in_ok-visits_kept.ensures (ap (λ (b : Between). b.globals) same) (ap (λ (b : Between). b.entry) same)

pub returns-clause-ready : goal.returns-clause-ready
returns-clause-ready c =
    let stands : Between = record { globals = piece_moved AtEnd c.args.parts.visit; entry = c.args.parts.keeps } in
    let same = ok_has (λ (b : Between). b ≡ stands) c.after_visits.result c.in_ok-after.after c.in_ok-after.ensures c.after_visits.ensures in
    subst (AreReady c.args.at.now.style.now) (sym same) (record {
      globals = ready_moved c.args.at.now.style.now AtEnd c.args.parts.visit c.requires.parts.visit c.requires.parts.movable;
      entry = c.requires.parts.keeps;
    })
