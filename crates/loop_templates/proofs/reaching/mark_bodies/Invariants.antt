-- The bodies that are left are marked yet.
use Rattle.std.proofs.Common.{◌≡◌, drop}
use Rattle.loop_templates.specs.Reaching.{with_bodies}
use Rattle.loop_templates.proofs.reaching.mark_bodies.Given as goal

abbrev pub invariant-loop-body : goal.invariant-loop-body
invariant-loop-body l = with_bodies (drop l.body-index l.bodies) l.marks.items ≡ with_bodies l.bodies l.initial.marks.items
