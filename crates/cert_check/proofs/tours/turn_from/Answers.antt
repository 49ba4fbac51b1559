use Rattle.std.proofs.Common.{arith}
use Rattle.cert_check.specs.Here.{here}
use Rattle.cert_check.proofs.RoomLeft.{room_on}
use Rattle.cert_check.proofs.TourSteps.{entered_rises, kept_from}
use Rattle.cert_check.proofs.TurnSteps.{left_room}
use Rattle.cert_check.proofs.tours.turn_from.Goals as goal

-- the states at the test's end
pub all_tests_ended-requires-clause-room : goal.all_tests_ended-requires-clause-room
all_tests_ended-requires-clause-room g c =
    left_room (here g.M.Loops.made c.args.at.now) c.args.at.now.place c.args.one.test 65 c.args.state c.args.tour.now.course c.target_entered.new.course
    c.take_given-states.new.self c.take_given-states.result.items c.requires.sound.sound c.requires.sound.certified c.requires.sound.makes
    (room_on c.args.at.now.scope.now.style 129 129 0 c.args.tour.now.course.count c.args.state (omega arith) (omega arith) c.requires.room)
    c.requires.none c.in_ok-target_entered.ensures.takes c.take_given-states.ensures.given c.take_given-states.ensures.left

pub returns-clause-keeps : goal.returns-clause-keeps
returns-clause-keeps g c =
    kept_from c.args.at.now.scope.now.style c.args.tour.now c.all_tests_ended.new.tour c.take_given-states.new.self c.all_tests_ended.result
    (entered_rises (here g.M.Loops.made c.args.at.now) c.args.at.now.place c.args.one.test c.args.state c.args.tour.now.course c.target_entered.new.course
    c.take_given-states.new.self c.requires.sound.sound c.requires.sound.certified c.requires.sound.makes
    (room_on c.args.at.now.scope.now.style 129 64 0 c.args.tour.now.course.count c.args.state (omega arith) (omega arith) c.requires.room)
    c.in_ok-target_entered.ensures.takes c.take_given-states.ensures.left)
    c.all_tests_ended.ensures.keeps
