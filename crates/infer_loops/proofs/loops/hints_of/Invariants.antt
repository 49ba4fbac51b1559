-- The hints at the ends so far and at those that are left are all, before those behind the last.
use Rattle.std.proofs.Common.{◌≡◌, ◌++◌, flat_map}
use Rattle.std.specs.List.{All}
use Rattle.std.specs.Vec.Iter.{into_iter_items}
use Rattle.name_table.specs.Sound.{Each}
use Rattle.cert_format.specs.CertText.{IsHint}
use Rattle.cert_check.specs.Tours.{IsEnded}
use Rattle.infer_loops.specs.Invariants.{hints_at_end}
use Rattle.infer_loops.proofs.loops.hints_of.Given as goal

abbrev pub invariant-loop-end : goal.invariant-loop-end
invariant-loop-end l = record {
  hints : l.hints.items ++ flat_map (hints_at_end l.frame l.candidate l.exits) (into_iter_items l.end-iterator)
      ≡ flat_map (hints_at_end l.frame l.candidate l.exits) l.fn.tour.ends;
  written : Each IsHint l.hints.items;
  ends : All (IsEnded l.frame.style) (into_iter_items l.end-iterator);
}
