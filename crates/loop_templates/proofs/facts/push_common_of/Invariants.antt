-- The facts of the places so far, and of those that are left.
use Rattle.std.proofs.Common.{◌≡◌, ◌++◌, drop, map}
use Rattle.std.specs.List.{flat_map}
use Rattle.loop_templates.specs.Cases.{common_of}
use Rattle.loop_templates.proofs.facts.push_common_of.Given as goal

abbrev pub invariant-loop-place : goal.invariant-loop-place
invariant-loop-place l = l.all.items ++ flat_map (common_of l.writes (map (λ state. state.now) l.states) l.state) (drop l.place-index l.places)
    ≡ l.initial.all.items ++ flat_map (common_of l.writes (map (λ state. state.now) l.states) l.state) l.places
