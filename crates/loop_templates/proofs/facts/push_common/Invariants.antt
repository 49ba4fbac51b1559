-- The facts of the states so far, and of those that are left.
use Rattle.std.proofs.Common.{◌≡◌, ◌++◌, drop, map}
use Rattle.std.specs.List.{flat_map}
use Rattle.loop_templates.specs.Cases.{common_of}
use Rattle.loop_templates.proofs.facts.push_common.Given as goal

abbrev pub invariant-loop-state : goal.invariant-loop-state
invariant-loop-state l = l.all.items ++ flat_map (λ state. flat_map (common_of l.writes (map (λ state. state.now) l.states) state) l.places)
    (map (λ state. state.now) (drop l.state-index l.states))
    ≡ l.initial.all.items ++ flat_map (λ state. flat_map (common_of l.writes (map (λ state. state.now) l.states) state) l.places)
    (map (λ state. state.now) l.states)
