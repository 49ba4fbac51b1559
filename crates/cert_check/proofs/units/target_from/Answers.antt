use Rattle.std.specs.Vec.Iter.{into_iter_items}
use Rattle.cert_check.specs.Walks.{scope_of}
use Rattle.cert_check.proofs.UnitSteps.{first_target, next_target, rest_targets, target_kept}
use Rattle.cert_check.proofs.units.target_from.Goals as goal

pub target_entered-requires-clause-room : goal.target_entered-requires-clause-room
target_entered-requires-clause-room g c =
    first_target c.args.scope.now.style c.loop-state.course.count (into_iter_items c.loop-state.state-iterator) (into_iter_items c.next.new.self) c.in-Some.state
    c.in-Some.ensures.steps.0 c.loop-state.invariant.room

pub loop-state-preserved : goal.loop-state-preserved
loop-state-preserved g c =
    let kept = target_kept (scope_of c.args.scope.now (g.M.Loops.made c.args.maker.now)) c.args.place c.args.target (into_iter_items c.loop-state.state-iterator) (into_iter_items c.next.new.self) c.in-Some.state
    c.loop-state.course c.target_entered.new.course c.requires.sound.sound c.requires.sound.certified c.requires.sound.makes c.in-Some.ensures.steps.0 c.loop-state.invariant.room
    c.in_ok-target_entered.ensures.takes in
    record {
      entered = next_target (scope_of c.args.scope.now (g.M.Loops.made c.args.maker.now)) c.args.place c.args.target (into_iter_items c.loop-state.state-iterator) (into_iter_items c.next.new.self)
          c.in-Some.state c.loop-state.course c.target_entered.new.course _ c.in-Some.ensures.steps.0 c.loop-state.invariant.entered
          c.in_ok-target_entered.ensures.takes;
      room = rest_targets (scope_of c.args.scope.now (g.M.Loops.made c.args.maker.now)) (into_iter_items c.loop-state.state-iterator) (into_iter_items c.next.new.self) c.in-Some.state c.loop-state.course.count
          c.target_entered.new.course.count c.in-Some.ensures.steps.0 kept.count c.loop-state.invariant.room;
      given = λ before. kept.given (c.loop-state.invariant.given before);
    }
