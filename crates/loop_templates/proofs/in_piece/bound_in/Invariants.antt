-- The bindings that are left bind the name as all of them do.
use Rattle.std.proofs.Common.{◌≡◌, drop}
use Rattle.sym_state.specs.Changes.{symbol_at}
use Rattle.loop_templates.proofs.in_piece.bound_in.Given as goal

abbrev pub invariant-loop-bind : goal.invariant-loop-bind
invariant-loop-bind l = symbol_at l.name (drop l.bind-index l.binds) ≡ symbol_at l.name l.binds
