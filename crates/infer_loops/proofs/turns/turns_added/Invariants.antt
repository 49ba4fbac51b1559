-- The turns from the cases that are left give what those from all of them do.
use Rattle.std.proofs.Common.{◌≡◌, drop}
use Rattle.cert_check.specs.Tours.{KeepsTour, turns_of}
use Rattle.cert_check.specs.Units.{everywhere}
use Rattle.infer_loops.specs.Invariants.{added_cases}
use Rattle.infer_loops.proofs.turns.turns_added.Given as goal

abbrev pub invariant-loop-one_added : goal.invariant-loop-one_added
invariant-loop-one_added l = record {
  turned : turns_of (everywhere l.checker.style l.checker.cert) l.one (added_cases (drop l.one_added-index l.added)) l.tour
      ≡ turns_of (everywhere l.checker.style l.checker.cert) l.one (added_cases l.added) l.initial.tour;
  keeps : KeepsTour l.checker.style l.initial.tour l.tour;
}
