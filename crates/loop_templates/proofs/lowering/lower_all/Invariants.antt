-- The cases so far, and those that are left.
use Rattle.std.proofs.Common.{◌≡◌, ◌||◌, ◌++◌, drop, map}
use Rattle.std.specs.List.{list_any}
use Rattle.loop_templates.specs.Candidates.{is_lower, lowered}
use Rattle.loop_templates.proofs.lowering.lower_all.Given as goal

abbrev pub invariant-loop-one : goal.invariant-loop-one
invariant-loop-one l = record {
  lower : (l.after.lower || list_any (is_lower l.cond l.turned) (drop l.one-index l.added)) ≡ list_any (is_lower l.cond l.turned) l.added;
  added : l.after.added ++ map (lowered l.cond l.turned) (drop l.one-index l.added) ≡ map (lowered l.cond l.turned) l.added;
}
