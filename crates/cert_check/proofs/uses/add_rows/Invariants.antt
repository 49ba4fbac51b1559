use Rattle.std.proofs.Common.{◌≡◌, ◌++◌, map, take}
use Rattle.sym_state.specs.Matches.{matched_by}
use Rattle.sym_state.specs.Renaming.{row_renamed}
use Rattle.cert_check.proofs.uses.add_rows.Given as goal

-- the rows so far are added
abbrev pub invariant-loop-row : goal.invariant-loop-row
invariant-loop-row l = l.all.items ≡ l.fn.all.items ++ map (row_renamed (matched_by l.matching)) (take l.row-index l.rows)
