-- The terms of the parts so far are left over nowhere.
use Rattle.std.proofs.Common.{◌≡◌, drop}
use Rattle.lin_facts.specs.Follows.{cancel}
use Rattle.lin_facts.proofs.follows.cancel.Given as goal

abbrev pub invariant-loop-part : goal.invariant-loop-part
invariant-loop-part l = cancel l.rows l.step l.goal l.parts ≡ cancel l.rows l.step l.goal (drop l.part-index l.parts)
