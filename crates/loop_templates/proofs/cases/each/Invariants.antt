-- The states so far.
use Rattle.std.proofs.Common.{◌≡◌, ◌++◌, drop, map}
use Rattle.loop_templates.proofs.cases.each.Given as goal

abbrev pub invariant-loop-state : goal.invariant-loop-state
invariant-loop-state l = map (λ state. state.now) l.all.items ++ drop l.state-index l.states ≡ l.states
