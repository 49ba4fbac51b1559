use Rattle.std.proofs.Common.{◌≡◌, drop}
use Rattle.std.specs.List.{list_all}
use Rattle.cond_eval.specs.Unmet.{keeps}
use Rattle.cond_eval.proofs.eval.all_keep.Given as goal

-- the fields that are left are as they are wanted exactly where all are
abbrev pub invariant-loop-at : goal.invariant-loop-at
invariant-loop-at l = list_all (keeps l.wanted) (drop l.at l.entry.fields) ≡ list_all (keeps l.wanted) l.entry.fields
