use Rattle.std.proofs.Common.{◌≡◌}
use Rattle.std.specs.List.{All}
use Rattle.std.specs.Vec.Iter.{into_iter_items}
use Rattle.cert_check.specs.Room.{HasRoom}
use Rattle.cert_check.specs.Tours as rule
use Rattle.cert_check.specs.Here.{here}
use Rattle.cert_check.proofs.tours.all_turned_or_left.Given as goal

-- the cases that are left give what all of them do
abbrev pub invariant-loop-case : goal.invariant-loop-case
invariant-loop-case g l = record {
  turned : rule.all_turned_or_left (here g.M.Loops.made l.at) l.at.place l.one (into_iter_items l.case-iterator) l.tour
      ≡ rule.all_turned_or_left (here g.M.Loops.made l.at) l.at.place l.one l.fn.cases.items l.initial.tour;
  cases : All (λ case. HasRoom l.at.scope.now.style 64 l.tour.course.count case.1) (into_iter_items l.case-iterator);
  keeps : rule.KeepsTour l.at.scope.now.style l.initial.tour l.tour;
}
