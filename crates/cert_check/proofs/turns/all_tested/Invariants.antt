use Rattle.std.proofs.Common.{◌≡◌, []}
use Rattle.std.specs.List.{All}
use Rattle.std.specs.Vec.Iter.{into_iter_items}
use Rattle.cert_check.specs.Room.{HasRoom}
use Rattle.cert_check.specs.Units as rule
use Rattle.cert_check.specs.Here.{here}
use Rattle.cert_check.proofs.turns.all_tested.Given as goal

-- the states that are left give what all of them do
abbrev pub invariant-loop-state : goal.invariant-loop-state
invariant-loop-state g l = record {
  tested : rule.all_tested (here g.M.Loops.made l.at) l.at.place l.one (into_iter_items l.state-iterator) l.course
      ≡ rule.all_tested (here g.M.Loops.made l.at) l.at.place l.one l.fn.states.items l.initial.course;
  room : All (HasRoom l.at.scope.now.style 65 l.course.count) (into_iter_items l.state-iterator);
  none : l.course.given ≡ [];
}
