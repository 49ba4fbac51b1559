-- What entered so far, and what is left.
use Rattle.std.proofs.Common.{◌≡◌, ◌++◌, Option, drop}
use Rattle.cert_check.specs.Walks.{Make, entering_with, scope_of}
use Rattle.cert_check.proofs.whiles.entering_with.Given as goal

abbrev pub invariant-loop-state : goal.invariant-loop-state
invariant-loop-state l =
    (make : Option Make) → l.entering.items ++ entering_with (scope_of l.scope make) l.one (drop l.state-index l.states)
    ≡ entering_with (scope_of l.scope make) l.one l.states
