-- The case for the next skeleton is added.
use Rattle.std.specs.List.{All}
use Rattle.std.specs.Vec.Iter.{into_iter_items}
use Rattle.loop_templates.specs.Candidates.{added_for}
use Rattle.loop_templates.specs.Skeletons.{IsBoneOf}
use Rattle.loop_templates.proofs.OneByOne.{first_left, one_added, rest_left}
use Rattle.loop_templates.proofs.candidates.push_added.Goals as goal

pub added_for-requires-clause-bones : goal.added_for-requires-clause-bones
added_for-requires-clause-bones c =
    first_left (All (IsBoneOf c.args.frame.now.style)) (into_iter_items c.loop-bones.bones-iterator) (into_iter_items c.next.new.self) c.in-Some.bones
    c.in-Some.ensures.steps.0 c.loop-bones.invariant.bones

pub loop-bones-preserved : goal.loop-bones-preserved
loop-bones-preserved c = record {
  added = one_added (added_for c.args.frame.now c.args.states.now) c.loop-bones.added.items c.push.new.self.items _ _ (into_iter_items c.loop-bones.bones-iterator)
      (into_iter_items c.next.new.self) c.in-Some.bones c.in-Some.ensures.steps.0 c.in_ok-added_for.ensures c.in_ok-push.ensures.items
      c.loop-bones.invariant.added;
  bones = rest_left (All (IsBoneOf c.args.frame.now.style)) (into_iter_items c.loop-bones.bones-iterator) (into_iter_items c.next.new.self) c.in-Some.bones
      c.in-Some.ensures.steps.0 c.loop-bones.invariant.bones;
}
