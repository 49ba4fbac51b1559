use Rattle.std.proofs.Common.{◌≡◌, map, take}
use Rattle.sym_state.specs.Positions.{row_moved}
use Rattle.command_flow.specs.Moments.{position_of}
use Rattle.command_flow.proofs.moving.rows_moved.Given as goal

-- so far the rows are moved
abbrev pub invariant-loop-row : goal.invariant-loop-row
invariant-loop-row l = l.moved.items ≡ map (row_moved (position_of l.moment)) (take l.row-index l.rows)
