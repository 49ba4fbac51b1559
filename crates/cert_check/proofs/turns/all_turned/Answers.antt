use Rattle.std.proofs.Common.{arith}
use Rattle.std.specs.Vec.Iter.{into_iter_items}
use Rattle.cert_check.specs.Here.{here}
use Rattle.cert_check.proofs.TurnSteps.{next_sign, rest_signs}
use Rattle.cert_check.proofs.turns.all_turned.Goals as goal

-- the next case
pub loop-above-preserved : goal.loop-above-preserved
loop-above-preserved g c =
    let before = c.loop-above.invariant.rises in
    let later = c.in_ok-turned.ensures.rises in
    record {
      turned = next_sign (here g.M.Loops.made c.args.at.now) c.args.at.now.place c.args.one.now (into_iter_items c.loop-above.above-iterator) (into_iter_items c.next.new.self) c.in-Some.above
          c.in-Some.state c.loop-above.course c.turned.new.course _ c.in-Some.ensures.steps.0 c.loop-above.invariant.turned c.in_ok-turned.ensures.takes;
      cases = rest_signs c.args.at.now.scope.now.style c.loop-above.course.count c.turned.new.course.count (into_iter_items c.loop-above.above-iterator)
          (into_iter_items c.next.new.self) (c.in-Some.above, c.in-Some.state) c.in-Some.ensures.steps.0 later c.loop-above.invariant.cases;
      none = c.in_ok-turned.ensures.none;
      rises = omega (arith, before, later);
    }
