-- The turns from the cases that are left give what those from all of them do.
use Rattle.std.proofs.Common.{◌≡◌, drop}
use Rattle.cert_check.specs.Tours.{KeepsTour, turns_of}
use Rattle.cert_check.specs.Units.{everywhere}
use Rattle.infer_loops.proofs.turns.turns_of.Given as goal

abbrev pub invariant-loop-case : goal.invariant-loop-case
invariant-loop-case l = record {
  turned : turns_of (everywhere l.checker.style l.checker.cert) l.one (drop l.case-index l.cases) l.tour
      ≡ turns_of (everywhere l.checker.style l.checker.cert) l.one l.cases l.initial.tour;
  keeps : KeepsTour l.checker.style l.initial.tour l.tour;
}
