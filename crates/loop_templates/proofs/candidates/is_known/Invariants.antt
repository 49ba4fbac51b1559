-- It is among those that are left, or among none.
use Rattle.std.proofs.Common.{◌≡◌, drop, map}
use Rattle.loop_templates.specs.Skeletons.{is_among}
use Rattle.loop_templates.proofs.candidates.is_known.Given as goal

abbrev pub invariant-loop-one : goal.invariant-loop-one
invariant-loop-one l = is_among (map (λ one. one.bones) (drop l.one-index l.added)) l.bones ≡ is_among (map (λ one. one.bones) l.added) l.bones
