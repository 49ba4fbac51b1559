-- The state stays well made by each call.
use Rattle.std.proofs.Common.{◌<◌, refl, sym, ap, subst, arith}
use Rattle.sym_state.specs.State.{State}
use Rattle.sym_state.specs.declared.symbol.Sym.{Sym}
use Rattle.sym_state.specs.WellMade.{WellMade}
use Rattle.state_tests.proofs.tests.walk.pushed.Goals as goal

pub returns : goal.returns
returns c =
    let style = c.args.style.now in
    let first = c.fresh.ensures.kept style (subst (WellMade style) (sym c.in_ok-state.ensures) c.requires) in
    let literal = ap (λ (s : Sym). s.0) c.in_ok-literal.ensures.symbol in
    let more = ap (λ (s : State). s.next) c.in_ok-literal.ensures.ok in
    let fact = c.add_fact.ensures.kept style first (record { below = omega (arith, literal, more); of_style = tt; integer = refl; bytes = tt; short = tt }) in
    let same = ap (λ (s : State). s.next) c.in_ok-add_fact.ensures.ok in
    let on = c.push.ensures.kept style fact (omega (arith, literal, more, same)) in
    c.push-2.ensures.kept style on (grind arith)
