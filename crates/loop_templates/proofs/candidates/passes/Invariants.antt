-- It passes where it does by the states that are left.
use Rattle.std.proofs.Common.{◌≡◌, drop}
use Rattle.loop_templates.specs.Candidates.{passes}
use Rattle.loop_templates.proofs.candidates.passes.Given as goal

abbrev pub invariant-loop-state : goal.invariant-loop-state
invariant-loop-state l = passes l.cond l.added (drop l.state-index l.turned) ≡ passes l.cond l.added l.turned
