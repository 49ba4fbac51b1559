-- The rows of one more binding are added.
use Rattle.std.proofs.Common.{arith}
use Rattle.std.proofs.lemmas.Grind.{common_steps}
use Rattle.sym_state.proofs.start.add_own_rows.Goals as goal

pub loop-bind-preserved : goal.loop-bind-preserved
loop-bind-preserved c = record {
  added = grind (arith, common_steps);
  bounded = λ before. c.in_ok-push_rows.ensures.bounded (c.loop-bind.invariant.bounded before);
}
