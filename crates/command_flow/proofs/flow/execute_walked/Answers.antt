-- The call begins in the state that was made of the piece, and ends in the piece that is held.
use Rattle.std.proofs.Common.{◌≡◌, true, false, List, [], ◌∷◌, subst}
use Rattle.cert_check.specs.Given.{Takes}
use Rattle.sym_state.specs.Starting.{started}
use Rattle.sym_state.specs.State.{State}
use Rattle.sym_state.specs.declared.piece.Piece.{Piece}
use Rattle.command_flow.specs.Commands.{called}
use Rattle.command_flow.proofs.Flowing.{ok_has}
use Rattle.command_flow.proofs.flow.execute_walked.Goals as goal

pub returns : goal.returns
returns c =
    let at = c.args.at.now in
    let begun = λ (pieces : List Piece). started at.style.now at.cond.now pieces true false in
    let takes = λ (state : State) (ends : List Piece). Takes (called at.checker.now.style at.checker.now.cert c.args.name at.command.place state ends c.args.hints.now) [] c.called.result in
    subst (λ (ends : List Piece). takes (begun (c.args.globals.now ∷ [])) ends) c.from_ref-2.ensures.value
    (subst (λ (pieces : List Piece). takes (begun pieces) c.from_ref-2.result.now) c.from_ref.ensures.value
    (subst (λ (state : State). takes state c.from_ref-2.result.now)
    (ok_has (λ (state : State). state ≡ begun c.from_ref.result.now) c.state_of.result c.in_ok-state.state c.in_ok-state.ensures c.state_of.ensures.started)
    c.called.ensures))
