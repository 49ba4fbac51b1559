-- It is among those that are left, or among none.
use Rattle.std.proofs.Common.{◌≡◌, drop}
use Rattle.loop_templates.specs.Skeletons.{is_among}
use Rattle.loop_templates.proofs.candidates.is_among.Given as goal

abbrev pub invariant-loop-other : goal.invariant-loop-other
invariant-loop-other l = is_among (drop l.other-index l.all) l.bones ≡ is_among l.all l.bones
