-- The hints are those by one of the cases that are left.
use Rattle.std.proofs.Common.{◌≡◌, ◌+◌, drop}
use Rattle.loop_templates.specs.Candidates.{entailing_one}
use Rattle.loop_templates.proofs.hints.entailing_one.Given as goal

abbrev pub invariant-loop-k : goal.invariant-loop-k
invariant-loop-k l = entailing_one l.cond l.state (l.number + l.k) (drop l.k l.added) ≡ entailing_one l.cond l.state l.number l.added
