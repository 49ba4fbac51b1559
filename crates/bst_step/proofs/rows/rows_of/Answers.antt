-- One place more.
use Rattle.bst_step.proofs.OpenedSteps.{place_added}
use Rattle.bst_step.proofs.rows.rows_of.Goals as goal

pub loop-place-preserved : goal.loop-place-preserved
loop-place-preserved c =
    place_added c.loop-place.rows.items c.push.new.self.items c.loop-place.place c.in_ok-push.ensures.items c.loop-place.invariant
