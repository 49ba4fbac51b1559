use Rattle.std.proofs.Common.{◌≡◌, ◌++◌, drop}
use Rattle.sym_state.specs.References.{row_uses}
use Rattle.sym_state.proofs.shows.row_uses.Given as goal

-- the uses so far and those that are left are all uses
abbrev pub invariant-loop-k : goal.invariant-loop-k
invariant-loop-k l = l.all.items ++ row_uses l.k (drop l.k l.uses) ≡ row_uses 0 l.uses
