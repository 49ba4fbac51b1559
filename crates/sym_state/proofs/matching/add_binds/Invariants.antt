use Rattle.std.proofs.Common.{◌≡◌, ◌++◌, drop}
use Rattle.sym_state.specs.Entailing.{bind_places}
use Rattle.sym_state.proofs.matching.add_binds.Given as goal

-- the places so far and those that are left are all places
abbrev pub invariant-loop-bind : goal.invariant-loop-bind
invariant-loop-bind l =
    l.places.items ++ bind_places l.known (drop l.bind-index l.binds) ≡ l.fn.places.items ++ bind_places l.known l.binds
