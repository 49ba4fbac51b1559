-- The cases for the skeletons so far, and for those that are left.
use Rattle.std.proofs.Common.{◌≡◌, ◌++◌, map}
use Rattle.std.specs.List.{All}
use Rattle.std.specs.Vec.Iter.{into_iter_items}
use Rattle.loop_templates.specs.Candidates.{added_for}
use Rattle.loop_templates.specs.Skeletons.{IsBoneOf}
use Rattle.loop_templates.proofs.candidates.push_added.Given as goal

abbrev pub invariant-loop-bones : goal.invariant-loop-bones
invariant-loop-bones l = record {
  added : l.added.items ++ map (added_for l.frame l.states) (into_iter_items l.bones-iterator)
      ≡ l.initial.added.items ++ map (added_for l.frame l.states) l.fn.new.items;
  bones : All (All (IsBoneOf l.frame.style)) (into_iter_items l.bones-iterator);
}
