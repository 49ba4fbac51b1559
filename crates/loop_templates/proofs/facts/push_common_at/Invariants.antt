-- Those of the facts so far, and those of the facts that are left.
use Rattle.std.proofs.Common.{◌≡◌, ◌++◌, drop, map}
use Rattle.std.specs.List.{filter}
use Rattle.loop_templates.specs.Cases.{is_common, moved_to}
use Rattle.loop_templates.proofs.facts.push_common_at.Given as goal

abbrev pub invariant-loop-fact : goal.invariant-loop-fact
invariant-loop-fact l = l.all.items ++ moved_to l.place.sym
    (filter (is_common (map (λ state. state.now) l.states) l.place.name l.s) (map (λ fact. fact.now) (drop l.fact-index l.facts)))
    ≡ l.initial.all.items ++ moved_to l.place.sym
    (filter (is_common (map (λ state. state.now) l.states) l.place.name l.s) (map (λ fact. fact.now) l.facts))
