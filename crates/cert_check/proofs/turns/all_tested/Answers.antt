use Rattle.std.specs.Vec.Iter.{into_iter_items}
use Rattle.cert_check.specs.Room.{HasRoom}
use Rattle.cert_check.specs.Here.{here}
use Rattle.cert_check.proofs.TurnSteps.{first_of, next_tested, rest_of}
use Rattle.cert_check.proofs.turns.all_tested.Goals as goal

-- the next state
pub tested-requires-clause-room : goal.tested-requires-clause-room
tested-requires-clause-room g c =
    first_of (HasRoom c.args.at.now.scope.now.style 65 c.loop-state.course.count) (into_iter_items c.loop-state.state-iterator) (into_iter_items c.next.new.self)
    c.in-Some.state c.in-Some.ensures.steps.0 c.loop-state.invariant.room

pub loop-state-preserved : goal.loop-state-preserved
loop-state-preserved g c = record {
  tested = next_tested (here g.M.Loops.made c.args.at.now) c.args.at.now.place c.args.one.now (into_iter_items c.loop-state.state-iterator) (into_iter_items c.next.new.self) c.in-Some.state
      c.loop-state.course c.tested.new.course _ c.in-Some.ensures.steps.0 c.loop-state.invariant.tested c.in_ok-tested.ensures.takes;
  room = rest_of c.args.at.now.scope.now.style 65 c.loop-state.course.count c.tested.new.course.count (into_iter_items c.loop-state.state-iterator)
      (into_iter_items c.next.new.self) c.in-Some.state c.in-Some.ensures.steps.0 c.in_ok-tested.ensures.rises c.loop-state.invariant.room;
  none = c.in_ok-tested.ensures.none;
}
