-- The cases so far and those that are left are all.
use Rattle.std.proofs.Common.{◌≡◌, ◌++◌}
use Rattle.std.specs.Vec.Iter.{into_iter_items}
use Rattle.infer_loops.specs.Invariants.{added_cases}
use Rattle.infer_loops.proofs.loops.pieces_of.Given as goal

abbrev pub invariant-loop-one : goal.invariant-loop-one
invariant-loop-one l = l.pieces.items ++ added_cases (into_iter_items l.one-iterator) ≡ added_cases l.fn.added.items
