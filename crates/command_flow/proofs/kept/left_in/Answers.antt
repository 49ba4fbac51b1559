-- What the states have in common may be left.
use Rattle.command_flow.specs.Templates.{frame_left}
use Rattle.command_flow.proofs.LeftPieces.{case_left, frame_ready}
use Rattle.command_flow.proofs.kept.left_in.Goals as goal

pub returns-in_ok-case_left-in-len1-up-clause-stands : goal.returns-in_ok-case_left-in-len1-up-clause-stands
returns-in_ok-case_left-in-len1-up-clause-stands c =
    let at = c.args.at.now in
    case_left (frame_left at.style.now at.cond.now c.args.name c.args.leaving c.args.start) c.args.states.now c.in_ok-case_left-in-len1-up.field-0
    c.in_ok-case_left-in-len1-up.ensures
    (frame_ready at.style.now at.cond.now c.args.name c.args.leaving c.args.start c.requires.at.sound c.requires.start c.requires.leaving)
