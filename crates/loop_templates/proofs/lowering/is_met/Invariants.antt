-- It is met by one of those that are left, or by none.
use Rattle.std.proofs.Common.{◌≡◌, drop}
use Rattle.loop_templates.specs.Candidates.{is_met}
use Rattle.loop_templates.proofs.lowering.is_met.Given as goal

abbrev pub invariant-loop-one : goal.invariant-loop-one
invariant-loop-one l = is_met l.cond (drop l.one-index l.added) l.state ≡ is_met l.cond l.added l.state
