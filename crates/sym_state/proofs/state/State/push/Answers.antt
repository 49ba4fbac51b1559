use Rattle.std.proofs.Common.{◌<◌, subst, sym}
use Rattle.sym_state.specs.WellMade.{WellMade}
use Rattle.sym_state.proofs.Boxed.{lent, seen}
use Rattle.sym_state.proofs.Resulting.{push_made}
use Rattle.sym_state.proofs.state.State.push.Goals as goal

pub returns-clause-kept : goal.returns-clause-kept
returns-clause-kept c style made below =
    push_made style (seen c.deref_mut.result.now) c.args.sym c.push.new.self c.push.result c.push.ensures.ok c.push.ensures.err
    (lent (WellMade style) c.deref_mut.ensures.value (subst (WellMade style) (sym c.self.view_is) made))
    (lent (λ state. c.args.sym.0 < state.next) c.deref_mut.ensures.value (subst (λ state. c.args.sym.0 < state.next) (sym c.self.view_is) below))
