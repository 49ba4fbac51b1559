-- Those so far and those among the states that are left are those among all.
use Rattle.std.proofs.Common.{◌≡◌, ◌++◌, drop, map}
use Rattle.loop_templates.specs.Skeletons.{states_of}
use Rattle.loop_templates.proofs.skeletons.states_of.Given as goal

abbrev pub invariant-loop-state : goal.invariant-loop-state
invariant-loop-state l = map (λ state. state.now) l.found.items ++ states_of l.bones (drop l.state-index l.states) ≡ states_of l.bones l.states
