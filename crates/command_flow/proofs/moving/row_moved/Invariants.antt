use Rattle.std.proofs.Common.{drop}
use Rattle.command_flow.specs.Moments.{position_of}
use Rattle.command_flow.proofs.MovedRows.{Moved}
use Rattle.command_flow.proofs.moving.row_moved.Given as goal

-- what has been moved, with the parts that are left, is the row moved
abbrev pub invariant-loop-part : goal.invariant-loop-part
invariant-loop-part l = Moved (position_of l.moment) l.row (drop l.part-index l.row.parts) l.moved.constant l.moved.parts
