-- One value more ends before the place.
use Rattle.std.proofs.Common.{sym}
use Rattle.bst_step.proofs.PassedSteps.{one_before}
use Rattle.bst_step.proofs.packed_values.PackedValues.next_behind.Goals as goal

pub loop-at-preserved : goal.loop-at-preserved
loop-at-preserved c =
    one_before c.args.front c.args.self.now c.args.from c.loop-at.at c.in-Some.value c.loop-at.auto.at (sym c.in-Some.ensures) c.loop-at.invariant
    c.if-not-is_before.ensures
