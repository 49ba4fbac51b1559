use Rattle.std.proofs.Common.{◌≡◌, ◌++◌, map, take}
use Rattle.sym_state.specs.Renaming.{sym_renamed}
use Rattle.sym_state.specs.Starting.{raised}
use Rattle.sym_state.proofs.raising.add_stack.Given as goal

-- so far the symbols of the stack are added
abbrev pub invariant-loop-sym : goal.invariant-loop-sym
invariant-loop-sym l = l.all.items ≡ l.fn.all.items ++ map (sym_renamed (raised l.from)) (take l.sym-index l.stack)
