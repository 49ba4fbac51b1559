-- Each of them is made so.
use Rattle.std.proofs.Common.{subst, sym}
use Rattle.loop_templates.specs.Candidates.{IsMade}
use Rattle.loop_templates.proofs.lowering.is_met.Goals as goal

pub is_met_by-requires-clause-made : goal.is_met_by-requires-clause-made
is_met_by-requires-clause-made c = subst IsMade (sym c.one-item.is) (c.requires.made c.loop-one.one-index c.one-item.result c.loop-one-test.true)
