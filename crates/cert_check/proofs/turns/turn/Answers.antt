use Rattle.std.proofs.Common.{arith}
use Rattle.cert_check.specs.Here.{here}
use Rattle.cert_check.proofs.RoomLeft.{room_on}
use Rattle.cert_check.proofs.TurnSteps.{left_room}
use Rattle.cert_check.proofs.turns.turn.Goals as goal

-- the states at the test's end
pub all_tested-requires-clause-room : goal.all_tested-requires-clause-room
all_tested-requires-clause-room g c =
    left_room (here g.M.Loops.made c.args.at.now) c.args.at.now.place c.args.one.now.test 65 c.in_ok-state.state c.args.course.now c.target_entered.new.course c.take_given-states.new.self
    c.take_given-states.result.items c.requires.sound.sound c.requires.sound.certified c.requires.sound.makes
    (room_on c.args.at.now.scope.now.style 129 129 0 c.args.course.now.count c.in_ok-state.state (omega arith) (omega arith) c.in_ok-state.ensures.room)
    c.requires.none c.in_ok-target_entered.ensures.takes c.take_given-states.ensures.given c.take_given-states.ensures.left
