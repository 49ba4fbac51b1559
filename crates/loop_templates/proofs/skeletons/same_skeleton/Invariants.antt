-- The skeletons are one where what is left of them is.
use Rattle.std.proofs.Common.{◌≡◌, drop}
use Rattle.loop_templates.specs.Skeletons.{same_skeleton}
use Rattle.loop_templates.proofs.skeletons.same_skeleton.Given as goal

abbrev pub invariant-loop-k : goal.invariant-loop-k
invariant-loop-k l = same_skeleton (drop l.k l.bones) (drop l.k l.others) ≡ same_skeleton l.bones l.others
