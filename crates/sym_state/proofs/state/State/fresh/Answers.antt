use Rattle.std.proofs.Common.{subst, sym}
use Rattle.sym_state.specs.WellMade.{WellMade}
use Rattle.sym_state.proofs.Boxed.{lent, seen}
use Rattle.sym_state.proofs.Resulting.{fresh_facts}
use Rattle.sym_state.proofs.state.State.fresh.Goals as goal

pub returns-clause-kept : goal.returns-clause-kept
returns-clause-kept c style made =
    fresh_facts style (seen c.deref_mut-known.result.now) c.args.kind c.in_ok-facts.facts c.in_ok-facts.ensures
    (lent (WellMade style) c.deref_mut-known.ensures.value (subst (WellMade style) (sym c.self.view_is) made))
