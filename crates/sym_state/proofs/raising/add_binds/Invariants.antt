use Rattle.std.proofs.Common.{◌≡◌, ◌++◌, map, take}
use Rattle.sym_state.specs.Renaming.{bind_renamed}
use Rattle.sym_state.specs.Starting.{raised}
use Rattle.sym_state.proofs.raising.add_binds.Given as goal

-- so far the bindings are added
abbrev pub invariant-loop-bind : goal.invariant-loop-bind
invariant-loop-bind l = l.all.items ≡ l.fn.all.items ++ map (bind_renamed (raised l.from)) (take l.bind-index l.binds)
