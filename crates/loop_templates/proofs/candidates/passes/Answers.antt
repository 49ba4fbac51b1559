-- Each of the states has bounds.
use Rattle.std.proofs.Common.{subst, sym}
use Rattle.sym_state.specs.WellMade.{HasBounds}
use Rattle.loop_templates.proofs.candidates.passes.Goals as goal

pub is_met-requires-clause-state : goal.is_met-requires-clause-state
is_met-requires-clause-state c = subst HasBounds (sym c.state-item.is) (c.requires.turned c.loop-state.state-index c.state-item.result c.loop-state-test.true)
