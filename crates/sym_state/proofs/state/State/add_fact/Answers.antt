use Rattle.std.proofs.Common.{subst, sym}
use Rattle.sym_state.specs.Fitting.{FactFits}
use Rattle.sym_state.specs.WellMade.{WellMade}
use Rattle.sym_state.proofs.Boxed.{lent, seen}
use Rattle.sym_state.proofs.Resulting.{fact_made}
use Rattle.sym_state.proofs.state.State.add_fact.Goals as goal

pub returns-clause-kept : goal.returns-clause-kept
returns-clause-kept c style made fits =
    fact_made style (seen c.deref_mut.result.now) c.args.fact c.push.new.self c.push.result c.push.ensures.ok c.push.ensures.err
    (lent (WellMade style) c.deref_mut.ensures.value (subst (WellMade style) (sym c.self.view_is) made))
    (lent (λ state. FactFits style state.next c.args.fact) c.deref_mut.ensures.value
    (subst (λ state. FactFits style state.next c.args.fact) (sym c.self.view_is) fits))
