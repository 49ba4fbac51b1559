-- It follows in all where it follows in those that are left.
use Rattle.std.proofs.Common.{◌≡◌, drop, map}
use Rattle.std.specs.List.{list_all}
use Rattle.loop_templates.specs.Cases.{follows_in}
use Rattle.loop_templates.proofs.facts.follows_in_all.Given as goal

abbrev pub invariant-loop-state : goal.invariant-loop-state
invariant-loop-state l = list_all (follows_in l.name l.fact) (map (λ state. state.now) (drop l.state-index l.states))
    ≡ list_all (follows_in l.name l.fact) (map (λ state. state.now) l.states)
