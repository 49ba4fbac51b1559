use Rattle.std.proofs.Common.{◌≡◌}
use Rattle.std.specs.List.{All}
use Rattle.std.specs.Vec.Iter.{into_iter_items}
use Rattle.cert_check.specs.Room.{HasRoom}
use Rattle.cert_check.specs.Tours as rule
use Rattle.cert_check.specs.Here.{here}
use Rattle.cert_check.proofs.tours.all_tests_ended.Given as goal

-- the states that are left give what all of them do
abbrev pub invariant-loop-state : goal.invariant-loop-state
invariant-loop-state g l = record {
  tested : rule.all_tests_ended (here g.M.Loops.made l.at) l.at.place l.one (into_iter_items l.state-iterator) l.tour
      ≡ rule.all_tests_ended (here g.M.Loops.made l.at) l.at.place l.one l.fn.states.items l.initial.tour;
  room : All (HasRoom l.at.scope.now.style 65 l.tour.course.count) (into_iter_items l.state-iterator);
  keeps : rule.KeepsTour l.at.scope.now.style l.initial.tour l.tour;
}
