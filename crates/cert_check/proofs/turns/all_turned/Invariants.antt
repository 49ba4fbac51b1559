use Rattle.std.proofs.Common.{◌≡◌, ◌≤◌, []}
use Rattle.std.specs.List.{All}
use Rattle.std.specs.Vec.Iter.{into_iter_items}
use Rattle.cert_check.specs.Room.{HasRoom}
use Rattle.cert_check.specs.Units as rule
use Rattle.cert_check.specs.Here.{here}
use Rattle.cert_check.proofs.turns.all_turned.Given as goal

-- the cases that are left give what all of them do
abbrev pub invariant-loop-above : goal.invariant-loop-above
invariant-loop-above g l = record {
  turned : rule.all_turned (here g.M.Loops.made l.at) l.at.place l.one (into_iter_items l.above-iterator) l.course
      ≡ rule.all_turned (here g.M.Loops.made l.at) l.at.place l.one l.fn.cases.items l.initial.course;
  cases : All (λ case. HasRoom l.at.scope.now.style 64 l.course.count case.1) (into_iter_items l.above-iterator);
  none : l.course.given ≡ [];
  rises : l.initial.course.count ≤ l.course.count;
}
