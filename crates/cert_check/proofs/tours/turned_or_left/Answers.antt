use Rattle.cert_check.specs.Here.{here}
use Rattle.cert_check.proofs.TourSteps.{left_kept, turned_kept}
use Rattle.cert_check.proofs.tours.turned_or_left.Goals as goal

-- the states at the body's end have turned
pub returns-in_ok-target_entered-clause-keeps : goal.returns-in_ok-target_entered-clause-keeps
returns-in_ok-target_entered-clause-keeps g c =
    turned_kept (here g.M.Loops.made c.args.at.now) c.args.at.now.place c.args.one c.args.case.1 c.args.tour.now c.turn_ended.new.self c.target_entered.new.course c.turn_ended.result
    c.requires.sound.sound c.requires.sound.certified c.requires.sound.makes c.requires.room c.requires.none c.in_ok-target_entered.ensures.takes c.turn_ended.ensures.counted
    c.turn_ended.ensures.written c.turn_ended.ensures.ended

-- the state leaves
pub returns-else-above-clause-keeps : goal.returns-else-above-clause-keeps
returns-else-above-clause-keeps g c =
    left_kept c.args.at.now.scope.now.style c.args.case.1 c.args.tour.now c.ended.new.self c.ended.result c.requires.room c.requires.none c.ended.ensures.counted
    c.ended.ensures.written c.ended.ensures.ended
