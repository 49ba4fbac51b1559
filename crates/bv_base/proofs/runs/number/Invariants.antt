use Rattle.std.proofs.Common.{◌≡◌, ◌≤◌, min, drop}
use Rattle.bv_base.specs.Runs.{number_from}
use Rattle.bv_base.specs.declared.limits.TheConstants.{WIDEST_NUMBER}
use Rattle.bv_base.proofs.runs.number.Given as goal

abbrev pub invariant-loop-digit : goal.invariant-loop-digit
invariant-loop-digit l = record {
  capped : l.value ≤ WIDEST_NUMBER;
  number : min WIDEST_NUMBER (number_from l.value (drop l.digit-index l.digits)) ≡ min WIDEST_NUMBER (number_from 0 l.digits);
}
