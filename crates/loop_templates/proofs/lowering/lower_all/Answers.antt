-- The next case is added.
use Rattle.std.proofs.Common.{ap, subst, sym, drop, map, refl, arith}
use Rattle.loop_templates.specs.Candidates.{IsMade, is_lower, lowered}
use Rattle.loop_templates.proofs.Made.{lowered_all}
use Rattle.loop_templates.proofs.OneByOne.{all_added, next_left, one_added, one_tried}
use Rattle.loop_templates.proofs.lowering.lower_all.Goals as goal

pub lower-requires-clause-made : goal.lower-requires-clause-made
lower-requires-clause-made c = subst IsMade (sym c.one-item.is) (c.requires.made c.loop-one.one-index c.one-item.result c.loop-one-test.true)

pub loop-one-preserved : goal.loop-one-preserved
loop-one-preserved c =
    let next = next_left c.args.added.now c.loop-one.one-index c.one-item.result c.loop-one-test.true c.one-item.is in
    record {
      lower = one_tried (is_lower c.args.cond.now c.args.turned.now) c.loop-one.after.lower c.lower.new.after.lower _ (drop c.loop-one.one-index c.args.added.now)
          _ c.one-item.result next (ap (λ it. it.lower) c.in_ok-lower.ensures) c.loop-one.invariant.lower;
      added = one_added (lowered c.args.cond.now c.args.turned.now) c.loop-one.after.added c.lower.new.after.added _ _ (drop c.loop-one.one-index c.args.added.now)
          _ c.one-item.result next refl (ap (λ it. it.added) c.in_ok-lower.ensures) c.loop-one.invariant.added;
    }

pub returns-clause-made : goal.returns-clause-made
returns-clause-made c =
    lowered_all c.args.cond.now c.args.turned.now c.args.added.now c.loop-one.after.added
    (all_added (map (lowered c.args.cond.now c.args.turned.now)) c.loop-one.after.added _ c.loop-one.one-index c.args.added.now refl (omega arith)
    c.loop-one.invariant.added)
    c.requires.made
