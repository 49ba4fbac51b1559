-- One part more is taken away.
use Rattle.std.proofs.Common.{◌∙◌, ◌+◌, ◌*◌, ap, arith}
use Rattle.straight_proofs.specs.Remainders.{added, turned}
use Rattle.straight_proofs.proofs.Canonical.{one_folded, one_within}
use Rattle.straight_proofs.proofs.remainders.parts_less.Goals as goal

pub loop-part-preserved : goal.loop-part-preserved
loop-part-preserved c =
    let others = c.args.others.now in
    let i = c.loop-part.part-index in
    let old = c.loop-part.all.items in
    record {
      left = one_folded (λ parts part. added (turned part) parts) others old _ _ i c.loop-part-test.true
          (c.in_ok-add_part.ensures ∙ ap (λ p. added p old) c.turned.ensures.said) c.loop-part.invariant.left;
      size = one_within (9007199254740992 + i * 35184372088832) _ c.turned.result old _ c.in_ok-add_part.ensures c.turned.ensures.small (omega arith) c.loop-part.invariant.size;
    }
