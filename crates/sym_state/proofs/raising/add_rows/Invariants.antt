use Rattle.std.proofs.Common.{◌≡◌, ◌++◌, map, take}
use Rattle.sym_state.specs.Renaming.{row_renamed}
use Rattle.sym_state.specs.Starting.{raised}
use Rattle.sym_state.proofs.raising.add_rows.Given as goal

-- so far the rows are added
abbrev pub invariant-loop-row : goal.invariant-loop-row
invariant-loop-row l = l.all.items ≡ l.fn.all.items ++ map (row_renamed (raised l.from)) (take l.row-index l.rows)
