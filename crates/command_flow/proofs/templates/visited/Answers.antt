-- What the visits come to is what ITERATE and REVERSE make.
use Rattle.std.proofs.Common.{refl}
use Rattle.std.proofs.lemmas.Result.{err_from_is_err_and}
use Rattle.command_flow.specs.Templates.{HasMade, seeking_by, visited_by}
use Rattle.command_flow.proofs.MadeCalls.{first_is, held_has, visited_makes, visited_refused}
use Rattle.command_flow.proofs.MadeParts.{visited_made}
use Rattle.command_flow.proofs.templates.visited.Goals as goal

pub returns-in_err-found-clause-makes : goal.returns-in_err-found-clause-makes
returns-in_err-found-clause-makes g c =
    let p = err_from_is_err_and c.from_residual-in_err-found.result c.from_residual-in_err-found.ensures.1 in
    let at = c.args.at.now in
    let seeking = seeking_by at.checker.now (g.M.Loops.made c.args.maker.now) in
    rw (p.1, p.2)
    (visited_refused seeking c.args.index c.args.name at.command.place c.args.lasting c.in_ok-first.first 65 c.in_err-found.field-0.0 refl
    (first_is seeking at.style.now at.cond.now c.args.name c.args.lasting.between c.first_visit.result c.in_ok-first.first c.requires.at.style c.requires.at.cond
    c.in_ok-first.ensures c.first_visit.ensures.first)
    c.in_err-found.ensures.finds)

pub returns-clause-makes : goal.returns-clause-makes
returns-clause-makes g c =
    let at = c.args.at.now in
    let seeking = seeking_by at.checker.now (g.M.Loops.made c.args.maker.now) in
    visited_makes seeking at.style.now at.cond.now c.args.index c.args.name at.command.place c.args.lasting c.in_ok-first.first c.in_ok-found.found
    c.visited_by.result c.held-2.result c.requires.at.style c.requires.at.cond
    (first_is seeking at.style.now at.cond.now c.args.name c.args.lasting.between c.first_visit.result c.in_ok-first.first c.requires.at.style c.requires.at.cond
    c.in_ok-first.ensures c.first_visit.ensures.first)
    c.in_ok-found.ensures.finds c.held-2.ensures c.visited_by.ensures

pub returns-clause-made : goal.returns-clause-made
returns-clause-made g c =
    let at = c.args.at.now in
    let style = at.style.now in
    held_has (HasMade style c.args.index) (visited_by style at.cond.now c.args.index c.args.name c.args.lasting c.in_ok-found.found) c.visited_by.result
    c.held-2.result c.held-2.ensures c.visited_by.ensures
    (visited_made style at.cond.now c.args.index c.args.name c.args.lasting c.in_ok-found.found c.requires.at.sound c.requires.at.small c.requires.there
    c.requires.lasts c.in_ok-found.ensures.visit c.in_ok-found.ensures.called)
