-- The states of the ends so far and of those that are left are all.
use Rattle.std.proofs.Common.{◌≡◌, ◌++◌, drop}
use Rattle.infer_loops.specs.Invariants.{ended_states}
use Rattle.infer_loops.proofs.ends.ended_states.Given as goal

abbrev pub invariant-loop-end : goal.invariant-loop-end
invariant-loop-end l = l.states.items ++ ended_states l.turned (drop l.end-index l.ends) ≡ ended_states l.turned l.ends
