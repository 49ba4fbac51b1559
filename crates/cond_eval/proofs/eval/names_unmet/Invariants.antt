use Rattle.std.proofs.Common.{◌≡◌, ◌+◌, drop}
use Rattle.cond_eval.specs.Unmet.{first_of, keeps_names}
use Rattle.cond_eval.proofs.eval.names_unmet.Given as goal

-- the first among the lines that are left is the first of all
abbrev pub invariant-loop-at : goal.invariant-loop-at
invariant-loop-at l = first_of keeps_names l.entry.fields (4 + l.at) (drop l.at l.lines) ≡ first_of keeps_names l.entry.fields 4 l.lines
