-- The cases of the states so far, and of those that are left.
use Rattle.std.proofs.Common.{◌≡◌, ◌++◌, drop, map}
use Rattle.loop_templates.specs.Cases.{entering_case}
use Rattle.loop_templates.proofs.candidates.entering_cases.Given as goal

abbrev pub invariant-loop-state : goal.invariant-loop-state
invariant-loop-state l = l.pieces.items ++ map (entering_case l.frame) (drop l.state-index l.states) ≡ map (entering_case l.frame) l.states
