-- The hints for the cases so far and those for the cases that are left are those for all.
use Rattle.std.proofs.Common.{◌≡◌, ◌++◌, drop, map}
use Rattle.straight_hints.specs.Found.{case_hint}
use Rattle.straight_hints.proofs.cases.each_case.Given as goal

abbrev pub invariant-loop-state : goal.invariant-loop-state
invariant-loop-state l =
    l.hints.items ++ map (case_hint l.finding l.cond) (drop l.state-index l.states) ≡ map (case_hint l.finding l.cond) l.states
