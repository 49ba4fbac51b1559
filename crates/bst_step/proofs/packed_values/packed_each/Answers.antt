-- One value more is packed.
use Rattle.bst_step.proofs.PackedSteps.{one_among, one_packed}
use Rattle.bst_step.proofs.packed_values.packed_each.Goals as goal

pub loop-value-preserved : goal.loop-value-preserved
loop-value-preserved c = record {
  values =
      one_packed c.loop-value.others.items c.packed_beside.new.others.items c.loop-value.packed.items c.push.new.self.items c.in-Some.one
      c.args.values.now c.loop-value.value-index _ c.loop-value-test.true c.in-Some.ensures.grown
      c.loop-value.invariant.among c.loop-value.invariant.values c.in-Some.ensures.value c.in_ok-push.ensures.items;
  among =
      one_among c.loop-value.others.items c.packed_beside.new.others.items c.loop-value.packed.items c.push.new.self.items c.in-Some.one
      c.in-Some.ensures.grown c.loop-value.invariant.among c.in-Some.ensures.among c.in_ok-push.ensures.items;
}
