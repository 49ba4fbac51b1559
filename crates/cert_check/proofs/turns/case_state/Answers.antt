use Rattle.cert_check.specs.Room.{HasRoom}
use Rattle.cert_check.specs.Here.{here}
use Rattle.cert_check.proofs.TurnSteps.{held_room, held_same, turn_room}
use Rattle.cert_check.proofs.UnitSteps.{started_is}
use Rattle.cert_check.proofs.turns.case_state.Goals as goal

pub returns-clause-state : goal.returns-clause-state
returns-clause-state g c =
    held_same _ c.start.result c.held.result c.held.ensures
    (λ state e. started_is c.args.at.now.scope.now.style c.style.result.now c.args.at.now.scope.now.cert.cond c.cond.result.now c.from_ref-pieces.result.now c.args.case.now
    c.args.whole c.args.entry c.start.result state e c.start.ensures.started c.style.ensures c.cond.ensures c.from_ref-pieces.ensures.value)

pub returns-clause-room : goal.returns-clause-room
returns-clause-room g c =
    held_room (HasRoom c.args.at.now.scope.now.style 129 0) c.start.result c.held.result c.held.ensures
    (λ state e. turn_room (here g.M.Loops.made c.args.at.now) c.args.case.now c.args.whole c.args.entry state c.requires.sound.sound c.requires.sound.certified c.requires.sound.makes c.requires.case
    (started_is c.args.at.now.scope.now.style c.style.result.now c.args.at.now.scope.now.cert.cond c.cond.result.now c.from_ref-pieces.result.now c.args.case.now
    c.args.whole c.args.entry c.start.result state e c.start.ensures.started c.style.ensures c.cond.ensures c.from_ref-pieces.ensures.value))
