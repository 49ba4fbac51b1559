-- What was counted so far, and what is left.
use Rattle.std.proofs.Common.{◌≡◌, ◌+◌, ◌≤◌, Option, drop, length}
use Rattle.cert_check.specs.Walks.{Make, entering_with, scope_of}
use Rattle.cert_check.proofs.whiles.count_entering.Given as goal

abbrev pub invariant-loop-state : goal.invariant-loop-state
invariant-loop-state l = record {
  counted : (make : Option Make) → l.count + length (entering_with (scope_of l.scope make) l.one (drop l.state-index l.states))
      ≡ length (entering_with (scope_of l.scope make) l.one l.states);
  few : l.count ≤ l.state-index;
}
