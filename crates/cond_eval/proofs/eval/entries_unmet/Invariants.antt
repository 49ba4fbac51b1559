use Rattle.std.proofs.Common.{◌≡◌, drop}
use Rattle.cond_eval.specs.Unmet.{entries_unmet}
use Rattle.cond_eval.proofs.eval.entries_unmet.Given as goal

-- the first among the entries that are left is the first of all
abbrev pub invariant-loop-at : goal.invariant-loop-at
invariant-loop-at l = entries_unmet l.style l.cond l.at (drop l.at l.list.entries) ≡ entries_unmet l.style l.cond 0 l.list.entries
