use Rattle.std.proofs.Common.{◌≡◌, ◌+◌, ◌++◌, drop}
use Rattle.std.specs.List.{zip}
use Rattle.sym_state.specs.Entailing.{stack_places}
use Rattle.sym_state.proofs.matching.stack_places.Given as goal

-- the places so far and those that are left are all places
abbrev pub invariant-loop-k : goal.invariant-loop-k
invariant-loop-k l = l.places.items ++ zip (drop l.k l.stack) (drop (l.under + l.k) l.known) ≡ stack_places l.known l.stack
