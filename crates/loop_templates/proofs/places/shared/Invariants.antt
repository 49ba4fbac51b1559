-- It is that among those that are left.
use Rattle.std.proofs.Common.{◌≡◌, drop}
use Rattle.loop_templates.specs.Cases.{shared}
use Rattle.loop_templates.proofs.places.shared.Given as goal

abbrev pub invariant-loop-of_state : goal.invariant-loop-of_state
invariant-loop-of_state l = shared l.s (drop l.of_state-index l.seen) ≡ shared l.s l.seen
