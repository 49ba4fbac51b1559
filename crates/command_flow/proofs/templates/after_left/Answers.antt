-- The frame is made against the state before the command.
use Rattle.std.proofs.Common.{◌≡◌, true, false, List, [], ◌∷◌, ap, ◌∙◌}
use Rattle.std.proofs.lemmas.Result.{IfOk-weaker}
use Rattle.sym_state.specs.Starting.{started}
use Rattle.sym_state.specs.State.{State}
use Rattle.sym_state.specs.declared.piece.Piece.{Piece}
use Rattle.command_flow.specs.Templates.{after_execute, frame_left, left_in}
use Rattle.command_flow.proofs.templates.after_left.Goals as goal

pub returns-clause-left : goal.returns-clause-left
returns-clause-left c =
    let style = c.args.at.now.style.now in
    let admits = c.args.at.now.cond.now in
    let from : State = started style admits (c.args.globals.now ∷ []) true false in
    IfOk-weaker c.left_in.result (λ left. left ≡ left_in (frame_left style admits c.args.name after_execute c.in_ok-start.start) c.args.states.now)
    (λ left. left ≡ left_in (frame_left style admits c.args.name after_execute from) c.args.states.now)
    (λ left is. is ∙ ap (λ (s : State). left_in (frame_left style admits c.args.name after_execute s) c.args.states.now)
    (c.in_ok-start.ensures.started ∙ ap (λ (l : List Piece). started style admits l true false) c.from_ref.ensures.value)) c.left_in.ensures.left
