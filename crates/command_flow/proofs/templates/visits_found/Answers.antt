-- A visit fails, it is the command's, or the next one is walked.
use Rattle.std.proofs.Common.{◌≡◌, ℕ, List, length, ap, sym, subst, ◌∙◌, arith}
use Rattle.std.specs.Global.{Vec}
use Rattle.std.proofs.lemmas.Result.{err_from_is_err_and}
use Rattle.lin_facts.specs.declared.row.Row.{Row}
use Rattle.loop_templates.specs.Visits.{left_by}
use Rattle.command_flow.specs.Templates.{IsVisit, seeking_by, visits_from}
use Rattle.command_flow.proofs.Flowing.{ok_has}
use Rattle.command_flow.proofs.LeftPieces.{fewer_left}
use Rattle.command_flow.proofs.VisitsMade.{as_visit, next_is, no_visit_left, rows_are, visit_fails, visit_goes_on, visit_settles}
use Rattle.command_flow.proofs.templates.visits_found.Goals as goal

pub loop-init : goal.loop-init
loop-init g c = record {
  comes = λ n is. let same : n ≡ 65 = omega (arith, is) in
      ap (λ (m : ℕ). visits_from m (seeking_by c.args.at.now.checker.now (g.M.Loops.made c.args.maker.now)) c.args.name c.args.at.now.command.place
      c.args.lasting.now c.args.first) same;
  visit = c.requires.first;
}

pub returns-in_err-calling-clause-finds : goal.returns-in_err-calling-clause-finds
returns-in_err-calling-clause-finds g c =
    let p = err_from_is_err_and c.from_residual.result c.from_residual.ensures.1 in
    let at = c.args.at.now in
    let seeking = seeking_by at.checker.now (g.M.Loops.made c.args.maker.now) in
    let more = c.loop-test.true in
    rw (p.1, p.2)
    (visit_fails seeking c.args.name at.command.place c.args.lasting.now c.loop.counter c.loop.visit _ c.in_err-calling.field-0.0 (omega (arith, more))
    c.loop.invariant.comes
    (λ memory. as_visit seeking at.style.now at.cond.now c.args.name at.command.place c.args.lasting.now c.loop.visit c.requires.at.style c.requires.at.cond
    ∙ c.in_err-calling.ensures.walks memory))

pub returns-then-len-as_slice-clause-finds : goal.returns-then-len-as_slice-clause-finds
returns-then-len-as_slice-clause-finds g c =
    let at = c.args.at.now in
    let seeking = seeking_by at.checker.now (g.M.Loops.made c.args.maker.now) in
    let given = c.in_ok-calling.calling.given in
    let rows = c.in_ok-rows.rows.items in
    let more = c.loop-test.true in
    visit_settles seeking c.args.name at.command.place c.args.lasting.now c.loop.counter c.loop.visit _ c.in_ok-calling.calling rows (omega (arith, more))
    c.loop.invariant.comes
    (as_visit seeking at.style.now at.cond.now c.args.name at.command.place c.args.lasting.now c.loop.visit c.requires.at.style c.requires.at.cond
    ∙ c.in_ok-calling.ensures.walks)
    (rows_are seeking at.cond.now c.as_slice.result.now given c.loop.visit rows c.requires.at.cond c.as_slice.ensures
    (ok_has (λ (r : Vec Row). r.items ≡ (left_by at.cond.now c.as_slice.result.now c.loop.visit).rows) c.rows_left_by.result c.in_ok-rows.rows c.in_ok-rows.ensures
    c.rows_left_by.ensures))
    (sym c.in_ok-rows.rows.ok.0 ∙ sym c.len.ensures ∙ c.if-len-as_slice.true ∙ ap (λ (l : List Row). length l) c.as_slice-in-loop.ensures)

pub loop-preserved : goal.loop-preserved
loop-preserved g c =
    let at = c.args.at.now in
    let seeking = seeking_by at.checker.now (g.M.Loops.made c.args.maker.now) in
    let given = c.in_ok-calling.calling.given in
    let rows = c.in_ok-rows.rows.items in
    let are : rows ≡ (left_by at.checker.now.cert.cond given c.loop.visit).rows =
    rows_are seeking at.cond.now c.as_slice.result.now given c.loop.visit rows c.requires.at.cond c.as_slice.ensures
    (ok_has (λ (r : Vec Row). r.items ≡ (left_by at.cond.now c.as_slice.result.now c.loop.visit).rows) c.rows_left_by.result c.in_ok-rows.rows c.in_ok-rows.ensures
    c.rows_left_by.ensures) in
    let next = next_is seeking given c.loop.visit rows _ c.from_vec.ensures are in
    record {
      comes = visit_goes_on seeking c.args.name at.command.place c.args.lasting.now c.loop.counter c.loop.visit _ _ c.in_ok-calling.calling rows
          c.loop.invariant.comes
          (as_visit seeking at.style.now at.cond.now c.args.name at.command.place c.args.lasting.now c.loop.visit c.requires.at.style c.requires.at.cond
          ∙ c.in_ok-calling.ensures.walks)
          are
          (λ same. c.if-len-as_slice.false (c.len.ensures ∙ c.in_ok-rows.rows.ok.0 ∙ same ∙ sym (ap (λ (l : List Row). length l) c.as_slice-in-loop.ensures)))
          next;
      visit = subst (IsVisit at.style.now) (sym next)
          (fewer_left at.style.now at.checker.now.cert.cond given c.loop.visit c.requires.at.sound c.loop.invariant.visit);
    }

pub returns-clause-finds : goal.returns-clause-finds
returns-clause-finds g c =
    let at = c.args.at.now in
    let seeking = seeking_by at.checker.now (g.M.Loops.made c.args.maker.now) in
    rw c.refuse.ensures
    (λ memory. sym (no_visit_left seeking c.args.name at.command.place c.args.lasting.now c.loop.counter c.loop.visit _
    (omega (arith, c.loop-test.false, c.loop.auto.counter-end)) c.loop.invariant.comes))
