use Rattle.std.proofs.Common.{◌≡◌, ◌++◌, drop}
use Rattle.infer.specs.DefaultCond as rule
use Rattle.infer.proofs.condition.names_lines.Given as goal

-- the lines so far, and those for the names that are left, are those for all names
abbrev pub invariant-loop-id : goal.invariant-loop-id
invariant-loop-id l = l.lines.items ++ rule.names_lines l.id (drop l.id l.names) ≡ rule.names_lines 0 l.names
