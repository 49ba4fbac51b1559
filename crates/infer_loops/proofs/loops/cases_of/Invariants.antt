-- The cases so far and those that are left are all.
use Rattle.std.proofs.Common.{◌≡◌, ◌++◌}
use Rattle.std.specs.Vec.Iter.{into_iter_items}
use Rattle.infer_loops.specs.Invariants.{added_cases, cases_of}
use Rattle.infer_loops.proofs.loops.cases_of.Given as goal

abbrev pub invariant-loop-one : goal.invariant-loop-one
invariant-loop-one l = l.cases.items ++ added_cases (into_iter_items l.one-iterator) ≡ cases_of l.fn.candidate
