use Rattle.std.proofs.Common.{drop}
use Rattle.cert_check.specs.Tables.{AreBodies}
use Rattle.cert_check.proofs.tables.bodies_by_number.Given as goal

-- the blocks are those among the bodies that were looked at, from the last one on
abbrev pub invariant-loop-id : goal.invariant-loop-id
invariant-loop-id l = AreBodies l.id l.found.items (drop l.id l.bodies)
