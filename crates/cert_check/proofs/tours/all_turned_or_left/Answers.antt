use Rattle.std.specs.Vec.Iter.{into_iter_items}
use Rattle.cert_check.specs.Here.{here}
use Rattle.cert_check.proofs.TourSteps.{kept_on, next_case}
use Rattle.cert_check.proofs.TurnSteps.{rest_signs}
use Rattle.cert_check.proofs.tours.all_turned_or_left.Goals as goal

-- the next case
pub loop-case-preserved : goal.loop-case-preserved
loop-case-preserved g c = record {
  turned = next_case (here g.M.Loops.made c.args.at.now) c.args.at.now.place c.args.one (into_iter_items c.loop-case.case-iterator) (into_iter_items c.next.new.self) c.in-Some.case.0
      c.in-Some.case.1 c.loop-case.tour c.turned_or_left.new.tour _ c.in-Some.ensures.steps.0 c.loop-case.invariant.turned c.in_ok-turned_or_left.ensures.takes;
  cases = rest_signs c.args.at.now.scope.now.style c.loop-case.tour.course.count c.turned_or_left.new.tour.course.count (into_iter_items c.loop-case.case-iterator)
      (into_iter_items c.next.new.self) c.in-Some.case c.in-Some.ensures.steps.0 c.in_ok-turned_or_left.ensures.keeps.count
      c.loop-case.invariant.cases;
  keeps = kept_on c.args.at.now.scope.now.style c.args.tour.now c.loop-case.tour c.turned_or_left.new.tour c.loop-case.invariant.keeps
      c.in_ok-turned_or_left.ensures.keeps;
}
