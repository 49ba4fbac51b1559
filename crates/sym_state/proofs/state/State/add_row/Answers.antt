use Rattle.std.proofs.Common.{subst, sym}
use Rattle.sym_state.specs.Fitting.{RowFits}
use Rattle.sym_state.specs.WellMade.{HasBounds, WellMade}
use Rattle.sym_state.proofs.Boxed.{lent, seen}
use Rattle.sym_state.proofs.Resulting.{row_bounds, row_made}
use Rattle.sym_state.proofs.state.State.add_row.Goals as goal

pub returns-clause-bounds : goal.returns-clause-bounds
returns-clause-bounds c bounded bounds =
    row_bounds (seen c.deref_mut.result.now) c.args.row c.push.new.self c.push.result c.push.ensures.ok bounded
    (lent HasBounds c.deref_mut.ensures.value (subst HasBounds (sym c.self.view_is) bounds))

pub returns-clause-kept : goal.returns-clause-kept
returns-clause-kept c style made fits =
    row_made style (seen c.deref_mut.result.now) c.args.row c.push.new.self c.push.result c.push.ensures.ok c.push.ensures.err
    (lent (WellMade style) c.deref_mut.ensures.value (subst (WellMade style) (sym c.self.view_is) made))
    (lent (λ state. RowFits state.next c.args.row) c.deref_mut.ensures.value (subst (λ state. RowFits state.next c.args.row) (sym c.self.view_is) fits))
