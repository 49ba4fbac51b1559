-- One value more stands on one side of the place.
use Rattle.std.proofs.lemmas.Option.{slice_get-get_or}
use Rattle.bst_step.proofs.PassedSteps.{one_stands}
use Rattle.bst_step.proofs.renewal.values_stand.Goals as goal

pub loop-value-preserved : goal.loop-value-preserved
loop-value-preserved c =
    one_stands c.args.place c.args.values.now c.loop-value.value-index _ (slice_get-get_or c.args.values.now c.loop-value.value-index _ c.loop-value-test.true)
    c.loop-value.invariant c.if-not-stands.ensures
