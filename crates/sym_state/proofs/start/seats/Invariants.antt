use Rattle.std.proofs.Common.{◌≡◌, ◌++◌, ◌+◌, map, take, drop}
use Rattle.sym_state.specs.Starting.{seats, unbound}
use Rattle.sym_state.proofs.start.seats.Given as goal

-- the names so far have their symbols
abbrev pub invariant-loop-name : goal.invariant-loop-name
invariant-loop-name l = record {
  seats : l.all.items ++ seats l.binds l.next (drop l.name-index l.names) ≡ seats l.binds l.first l.names;
  next : l.next + unbound l.binds (drop l.name-index l.names) ≡ l.first + unbound l.binds l.names;
  names : map (λ bind. bind.name) l.all.items ≡ take l.name-index l.names;
}
