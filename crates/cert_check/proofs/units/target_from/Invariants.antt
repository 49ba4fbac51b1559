use Rattle.std.proofs.Common.{◌≡◌}
use Rattle.std.specs.List.{All}
use Rattle.std.specs.Vec.Iter.{into_iter_items}
use Rattle.cert_check.specs.Room.{GivesRoom, HasRoom}
use Rattle.cert_check.specs.Units as rule
use Rattle.cert_check.specs.Walks.{scope_of}
use Rattle.cert_check.proofs.units.target_from.Given as goal

-- from the states that are left the target gives what it does from all of them
abbrev pub invariant-loop-state : goal.invariant-loop-state
invariant-loop-state g l = record {
  entered : rule.target_from (scope_of l.scope (g.M.Loops.made l.maker)) l.place l.target (into_iter_items l.state-iterator) l.course
      ≡ rule.target_from (scope_of l.scope (g.M.Loops.made l.maker)) l.place l.target l.fn.states.items l.initial.course;
  room : All (HasRoom l.scope.style 64 l.course.count) (into_iter_items l.state-iterator);
  given : GivesRoom l.scope.style l.initial.course → GivesRoom l.scope.style l.course;
}
