-- A state with another binding stays well made.
use Rattle.std.proofs.Common.{◌<◌, subst, sym}
use Rattle.sym_state.specs.WellMade.{WellMade}
use Rattle.sym_state.proofs.Boxed.{lent, seen}
use Rattle.sym_state.proofs.Rebound.{bind_kept}
use Rattle.sym_state.proofs.state.State.bind.Goals as goal

pub returns-clause-kept : goal.returns-clause-kept
returns-clause-kept c style made below =
    bind_kept style c.args.name c.args.sym (seen c.deref_mut-known.result.now) c.in_ok-vars.vars c.in_ok-fields.fields c.in_ok-vars.ensures c.in_ok-fields.ensures
    (lent (WellMade style) c.deref_mut-known.ensures.value (subst (WellMade style) (sym c.self.view_is) made))
    (lent (λ state. c.args.sym.0 < state.next) c.deref_mut-known.ensures.value (subst (λ state. c.args.sym.0 < state.next) (sym c.self.view_is) below))
