-- The sum with each sign turned is small too.
use Rattle.std.proofs.Common.{subst, sym}
use Rattle.loop_templates.specs.Sums.{IsSmallSum}
use Rattle.loop_templates.proofs.SmallSums.{negated_small}
use Rattle.loop_templates.proofs.claims.is_exactly.Goals as goal

pub is_floor-requires-2 : goal.is_floor-requires-2
is_floor-requires-2 c = record { sum = subst IsSmallSum (sym c.requires.negative) (negated_small c.args.sum.now c.requires.sum) }
