use Rattle.std.proofs.Common.{◌≡◌, ◌+◌, ◌*◌, ◌^◌, drop}
use Rattle.std.specs.List.{All}
use Rattle.std.specs.Vec.Iter.{into_iter_items}
use Rattle.cert_check.specs.Here.{entering, here, inside}
use Rattle.cert_check.specs.Room.{GivesRoom, HasRoom, IsCaseWithin}
use Rattle.cert_check.specs.Walks as rule
use Rattle.cert_check.proofs.walk.+walk.Given as goal

-- a body that is walked is one body deeper than what walks it, and `if$` takes three of the operands that are known
abbrev pub decreases-body_walked : goal.decreases-body_walked
decreases-body_walked g l = 2 ^ 70 * l.at.now.more

abbrev pub decreases-walked : goal.decreases-walked
decreases-walked g l = 2 ^ 70 * l.at.now.more + 2 ^ 69 + 3

abbrev pub decreases-taken_from : goal.decreases-taken_from
decreases-taken_from g l = 2 ^ 70 * l.at.now.more + 2 ^ 69 + 2

abbrev pub decreases-each_taken : goal.decreases-each_taken
decreases-each_taken g l = 2 ^ 70 * l.at.now.more + 2 ^ 69 + 1

abbrev pub decreases-taken : goal.decreases-taken
decreases-taken g l = 2 ^ 70 * l.at.now.more + 2 ^ 69

abbrev pub decreases-named : goal.decreases-named
decreases-named g l = 2 ^ 70 * l.at.now.more + 2 * l.at.now.known + 4

abbrev pub decreases-typed : goal.decreases-typed
decreases-typed g l = 2 ^ 70 * l.at.now.more + 3

abbrev pub decreases-type_called : goal.decreases-type_called
decreases-type_called g l = 2 ^ 70 * l.at.now.more + 2

abbrev pub decreases-body_entered : goal.decreases-body_entered
decreases-body_entered g l = 2 ^ 70 * l.at.now.more + 1

abbrev pub decreases-chosen_in : goal.decreases-chosen_in
decreases-chosen_in g l = 2 ^ 70 * l.at.now.more + 2 * l.at.now.known + 3

abbrev pub decreases-cases_entered : goal.decreases-cases_entered
decreases-cases_entered g l = 2 ^ 70 * l.at.now.more + 2 * l.at.now.known + 7

abbrev pub decreases-function_entered : goal.decreases-function_entered
decreases-function_entered g l = 2 ^ 70 * l.at.now.more + 2 * l.at.now.known + 6

abbrev pub decreases-name_entered : goal.decreases-name_entered
decreases-name_entered g l = 2 ^ 70 * l.at.now.more + 2 * l.at.now.known + 5

-- the tokens that are left give what all of them do
abbrev pub invariant-walked-loop-token : goal.invariant-walked-loop-token
invariant-walked-loop-token g l = record {
  walked : rule.walked (here g.M.Loops.made l.at) (inside g.M.Loops.made l.at) (drop l.token-index l.tokens) l.course
      ≡ rule.walked (here g.M.Loops.made l.at) (inside g.M.Loops.made l.at) l.tokens l.initial.course;
  room : GivesRoom l.at.scope.now.style l.course;
}

-- the states that are left give what all of them do
abbrev pub invariant-each_taken-loop-state : goal.invariant-each_taken-loop-state
invariant-each_taken-loop-state g l = record {
  taken : rule.each_taken (here g.M.Loops.made l.at) (inside g.M.Loops.made l.at) l.token (into_iter_items l.state-iterator) l.course
      ≡ rule.each_taken (here g.M.Loops.made l.at) (inside g.M.Loops.made l.at) l.token l.fn.states.items l.initial.course;
  room : All (HasRoom l.at.scope.now.style 0 l.course.count) (into_iter_items l.state-iterator);
}

-- the cases that are left give what all of them do
abbrev pub invariant-cases_entered-loop-above : goal.invariant-cases_entered-loop-above
invariant-cases_entered-loop-above g l =
    record {
      entered : rule.cases_entered (here g.M.Loops.made l.at) (inside g.M.Loops.made l.at) (entering g.M.Loops.made l.at) l.at.place l.three (into_iter_items l.above-iterator) l.course
          ≡ rule.cases_entered (here g.M.Loops.made l.at) (inside g.M.Loops.made l.at) (entering g.M.Loops.made l.at) l.at.place l.three l.fn.cases.items l.initial.course;
      cases : All (IsCaseWithin l.at.scope.now.style l.at.known l.course.count) (into_iter_items l.above-iterator);
    }

-- the functions that are left give what all of them do
abbrev pub invariant-typed-loop-name : goal.invariant-typed-loop-name
invariant-typed-loop-name g l = record {
  typed : rule.types_called (here g.M.Loops.made l.at) (inside g.M.Loops.made l.at) l.at.place (into_iter_items l.name-iterator) l.state l.course
      ≡ rule.typed (here g.M.Loops.made l.at) (inside g.M.Loops.made l.at) l.at.place l.state l.initial.course;
  room : HasRoom l.at.scope.now.style 0 l.course.count l.state;
}
