-- What the call comes to is what EXECUTE makes.
use Rattle.std.proofs.Common.{ℕ, List, length, ap, sym, subst}
use Rattle.std.proofs.lemmas.Result.{err_from_is_err_and}
use Rattle.cert_format.specs.declared.cert.Loop.{Loop}
use Rattle.name_table.specs.declared.style.Style.{Style}
use Rattle.command_flow.specs.Templates.{HasCalled, HasMade, executed_by, seeking_by}
use Rattle.command_flow.proofs.MadeCalls.{between_is, execute_makes, execute_refused, held_has}
use Rattle.command_flow.proofs.MadeParts.{executed_made}
use Rattle.command_flow.proofs.templates.executed.Goals as goal

pub returns-in_err-calling-clause-makes : goal.returns-in_err-calling-clause-makes
returns-in_err-calling-clause-makes g c =
    let p = err_from_is_err_and c.from_residual-in_err-calling.result c.from_residual-in_err-calling.ensures.1 in
    let at = c.args.at.now in
    let seeking = seeking_by at.checker.now (g.M.Loops.made c.args.maker.now) in
    rw (p.1, p.2)
    (execute_refused seeking c.args.index c.args.name at.command.place c.args.lasting (length c.as_slice-stay.result.now) c.in_ok-start.start c.in_err-calling.field-0.0
    (ap (λ (loops : List Loop). length loops) c.as_slice-stay.ensures)
    (between_is seeking at.style.now at.cond.now c.args.lasting.between c.from_ref-starts.result.now c.state_of.result c.in_ok-start.start c.requires.at.style
    c.requires.at.cond c.from_ref-starts.ensures.value c.in_ok-start.ensures c.state_of.ensures.started)
    c.in_err-calling.ensures.walks)

pub executed_by-requires-clause-called : goal.executed_by-requires-clause-called
executed_by-requires-clause-called g c =
    let at = c.args.at.now in
    subst (λ (s : Style). HasCalled s (length c.args.lasting.loops) c.in_ok-calling.calling) (sym c.requires.at.style)
    (subst (λ (n : ℕ). HasCalled at.checker.now.style n c.in_ok-calling.calling) (ap (λ (loops : List Loop). length loops) c.as_slice-stay.ensures)
    c.in_ok-calling.ensures.called)

pub returns-clause-makes : goal.returns-clause-makes
returns-clause-makes g c =
    let at = c.args.at.now in
    let seeking = seeking_by at.checker.now (g.M.Loops.made c.args.maker.now) in
    execute_makes seeking at.style.now at.cond.now c.args.index c.args.name at.command.place c.args.lasting (length c.as_slice-stay.result.now) c.in_ok-start.start
    c.in_ok-calling.calling c.executed_by.result c.held-2.result c.requires.at.style c.requires.at.cond
    (ap (λ (loops : List Loop). length loops) c.as_slice-stay.ensures)
    (between_is seeking at.style.now at.cond.now c.args.lasting.between c.from_ref-starts.result.now c.state_of.result c.in_ok-start.start c.requires.at.style
    c.requires.at.cond c.from_ref-starts.ensures.value c.in_ok-start.ensures c.state_of.ensures.started)
    c.in_ok-calling.ensures.walks c.held-2.ensures c.executed_by.ensures

pub returns-clause-made : goal.returns-clause-made
returns-clause-made g c =
    let at = c.args.at.now in
    let style = at.style.now in
    let called = subst (λ (s : Style). HasCalled s (length c.args.lasting.loops) c.in_ok-calling.calling) (sym c.requires.at.style)
    (subst (λ (n : ℕ). HasCalled at.checker.now.style n c.in_ok-calling.calling) (ap (λ (loops : List Loop). length loops) c.as_slice-stay.ensures)
    c.in_ok-calling.ensures.called) in
    held_has (HasMade style c.args.index) (executed_by style at.cond.now c.args.index c.args.name c.args.lasting c.in_ok-calling.calling) c.executed_by.result
    c.held-2.result c.held-2.ensures c.executed_by.ensures
    (executed_made style at.cond.now c.args.index c.args.name c.args.lasting c.in_ok-calling.calling c.requires.at.sound c.requires.at.small c.requires.there
    c.requires.lasts called)
