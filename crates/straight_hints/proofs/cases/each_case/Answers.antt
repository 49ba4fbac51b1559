-- Each case has bounds.
use Rattle.std.proofs.Common.{subst, sym, arith}
use Rattle.sym_state.specs.WellMade.{HasBounds}
use Rattle.straight_hints.proofs.cases.each_case.Goals as goal

pub case_hint-requires : goal.case_hint-requires
case_hint-requires c = subst HasBounds (sym c.state-item.is) (c.requires c.loop-state.state-index c.state-item.result (omega arith))
