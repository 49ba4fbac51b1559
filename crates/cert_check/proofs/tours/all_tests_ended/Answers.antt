use Rattle.std.specs.Vec.Iter.{into_iter_items}
use Rattle.cert_check.specs.Room.{HasRoom}
use Rattle.cert_check.specs.Here.{here}
use Rattle.cert_check.proofs.TourSteps.{kept_on, next_test}
use Rattle.cert_check.proofs.TurnSteps.{first_of, rest_of}
use Rattle.cert_check.proofs.tours.all_tests_ended.Goals as goal

-- the next state
pub test_ended-requires-clause-room : goal.test_ended-requires-clause-room
test_ended-requires-clause-room g c =
    first_of (HasRoom c.args.at.now.scope.now.style 65 c.loop-state.tour.course.count) (into_iter_items c.loop-state.state-iterator) (into_iter_items c.next.new.self)
    c.in-Some.state c.in-Some.ensures.steps.0 c.loop-state.invariant.room

pub loop-state-preserved : goal.loop-state-preserved
loop-state-preserved g c = record {
  tested = next_test (here g.M.Loops.made c.args.at.now) c.args.at.now.place c.args.one (into_iter_items c.loop-state.state-iterator) (into_iter_items c.next.new.self) c.in-Some.state
      c.loop-state.tour c.test_ended.new.tour _ c.in-Some.ensures.steps.0 c.loop-state.invariant.tested c.in_ok-test_ended.ensures.takes;
  room = rest_of c.args.at.now.scope.now.style 65 c.loop-state.tour.course.count c.test_ended.new.tour.course.count (into_iter_items c.loop-state.state-iterator)
      (into_iter_items c.next.new.self) c.in-Some.state c.in-Some.ensures.steps.0 c.in_ok-test_ended.ensures.keeps.count c.loop-state.invariant.room;
  keeps = kept_on c.args.at.now.scope.now.style c.args.tour.now c.loop-state.tour c.test_ended.new.tour c.loop-state.invariant.keeps c.in_ok-test_ended.ensures.keeps;
}
