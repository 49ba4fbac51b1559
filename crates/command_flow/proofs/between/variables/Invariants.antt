use Rattle.std.proofs.Common.{drop}
use Rattle.command_flow.specs.Between.{opening_of}
use Rattle.command_flow.proofs.Placing.{SoFar}
use Rattle.command_flow.proofs.between.variables.Given as goal

-- the variables so far, and those of the names that are left, are those of all names
abbrev pub invariant-loop-id : goal.invariant-loop-id
invariant-loop-id l = SoFar (opening_of l.owner) l.names l.id (drop l.id l.names) l.exact.vars.items l.exact.facts.items l.exact.next
