use Rattle.std.proofs.Common.{◌≡◌, [], drop}
use Rattle.cert_check.specs.Units as rule
use Rattle.cert_check.specs.Here.{here}
use Rattle.cert_check.proofs.turns.turned_from.Given as goal

-- the turns from the cases that are left give what those from all of them do
abbrev pub invariant-loop-case : goal.invariant-loop-case
invariant-loop-case g l = record {
  turned : rule.turned_from (here g.M.Loops.made l.at) l.at.place l.one (drop l.case-index l.cases) l.course ≡ rule.turned_from (here g.M.Loops.made l.at) l.at.place l.one l.cases l.initial.course;
  none : l.course.given ≡ [];
}
