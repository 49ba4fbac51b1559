use Rattle.std.proofs.Common.{sym, subst}
use Rattle.sym_state.specs.WellMade.{HasBounds}
use Rattle.cert_check.proofs.units.all_end.Goals as goal

pub ends-requires-clause-state : goal.ends-requires-clause-state
ends-requires-clause-state c =
    subst HasBounds (sym c.state-item.is) (c.requires.states c.loop-state.state-index c.state-item.result c.loop-state-test.true)
