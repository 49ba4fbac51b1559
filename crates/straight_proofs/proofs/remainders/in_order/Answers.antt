-- One part more is added.
use Rattle.std.proofs.Common.{◌*◌, arith, get_or}
use Rattle.lin_facts.proofs.Steps.{no_part}
use Rattle.straight_proofs.specs.Remainders.{added}
use Rattle.straight_proofs.proofs.Canonical.{one_folded, one_within}
use Rattle.straight_proofs.proofs.remainders.in_order.Goals as goal

pub loop-part-preserved : goal.loop-part-preserved
loop-part-preserved c = record {
  left = one_folded (λ parts part. added part parts) c.args.others.now c.loop-part.all.items _ _ c.loop-part.part-index c.loop-part-test.true c.in_ok-add_part.ensures
      c.loop-part.invariant.left;
  size = one_within (c.loop-part.part-index * 35184372088832) _ (get_or c.args.others.now c.loop-part.part-index no_part) c.loop-part.all.items _
      c.in_ok-add_part.ensures (c.requires.small c.loop-part.part-index no_part c.loop-part-test.true) (omega arith) c.loop-part.invariant.size;
}
