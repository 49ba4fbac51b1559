use Rattle.std.proofs.Common.{◌≡◌, ◌+◌, drop}
use Rattle.cond_eval.specs.Unmet.{first_of, keeps_ink}
use Rattle.cond_eval.proofs.eval.ink_unmet.Given as goal

-- the first among the names that are left is the first of all
abbrev pub invariant-loop-at : goal.invariant-loop-at
invariant-loop-at l = first_of keeps_ink l.entry.fields (l.first + l.at) (drop l.at l.names) ≡ first_of keeps_ink l.entry.fields l.first l.names
