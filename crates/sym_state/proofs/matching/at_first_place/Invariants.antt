use Rattle.std.proofs.Common.{◌≡◌, drop}
use Rattle.sym_state.specs.Entailing.{at_first_place}
use Rattle.sym_state.proofs.matching.at_first_place.Given as goal

-- the places that are left match the symbol as all of them do
abbrev pub invariant-loop-placed : goal.invariant-loop-placed
invariant-loop-placed l = at_first_place (drop l.placed-index l.places) l.sym.0 ≡ at_first_place l.places l.sym.0
