-- The facts so far.
use Rattle.std.proofs.Common.{◌≡◌, map, take}
use Rattle.loop_templates.proofs.facts.facts_of.Given as goal

abbrev pub invariant-loop-index : goal.invariant-loop-index
invariant-loop-index l = map (λ fact. fact.now) l.facts.items ≡ take l.index l.state.facts
