-- The parts so far, and those among the parts that are left.
use Rattle.std.proofs.Common.{◌≡◌, ◌++◌, drop}
use Rattle.loop_templates.specs.Rows.{without_pos}
use Rattle.loop_templates.proofs.claims.without_pos.Given as goal

abbrev pub invariant-loop-part : goal.invariant-loop-part
invariant-loop-part l = l.left.items ++ without_pos (drop l.part-index l.sum) ≡ without_pos l.sum
