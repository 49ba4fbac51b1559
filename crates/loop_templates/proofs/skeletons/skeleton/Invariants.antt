-- What there is of the symbols so far.
use Rattle.std.proofs.Common.{◌≡◌, ◌++◌, drop, map}
use Rattle.loop_templates.specs.Skeletons.{bone_of}
use Rattle.loop_templates.proofs.skeletons.skeleton.Given as goal

abbrev pub invariant-loop-sym : goal.invariant-loop-sym
invariant-loop-sym l = l.bones.items ++ map (bone_of l.state) (drop l.sym-index l.sym-items) ≡ map (bone_of l.state) l.sym-items
