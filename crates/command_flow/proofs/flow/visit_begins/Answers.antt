-- The piece that is shown is `visit` moved, from the state of the global variables.
use Rattle.std.proofs.Common.{◌≡◌, true, false, List, sym, ap, subst, ◌∙◌}
use Rattle.sym_state.specs.Positions.{AtStart}
use Rattle.sym_state.specs.State.{State}
use Rattle.sym_state.specs.Starting.{started}
use Rattle.sym_state.specs.declared.piece.Piece.{Piece}
use Rattle.cert_check.specs.Given.{CanEnd}
use Rattle.command_flow.specs.Between.{piece_moved}
use Rattle.command_flow.proofs.Flowing.{begins_by, ok_has}
use Rattle.command_flow.proofs.Ready.{ready_ends, ready_moved}
use Rattle.command_flow.proofs.flow.visit_begins.Goals as goal

pub piece_shown-requires-clause-piece : goal.piece_shown-requires-clause-piece
piece_shown-requires-clause-piece c =
    let moved : Piece = piece_moved AtStart c.args.visit.now in
    subst CanEnd (sym (ok_has (λ (p : Piece). p ≡ moved) c.piece_moved.result c.in_ok-first.first c.in_ok-first.ensures c.piece_moved.ensures))
    (ready_ends c.args.at.now.style.now moved (ready_moved c.args.at.now.style.now AtStart c.args.visit.now c.requires.visit c.requires.movable))

pub returns-clause-begins : goal.returns-clause-begins
returns-clause-begins c =
    begins_by c.args.at.now.style.now c.args.at.now.cond.now c.args.at.now.command.place c.args.visit.now c.args.globals.now c.in_ok-first.first c.in_ok-state.state c.args.hints.now _ c.piece_shown.result
    (ok_has (λ (p : Piece). p ≡ piece_moved AtStart c.args.visit.now) c.piece_moved.result c.in_ok-first.first c.in_ok-first.ensures c.piece_moved.ensures)
    (ok_has (λ (s : State). s ≡ started c.args.at.now.style.now c.args.at.now.cond.now c.from_ref.result.now true false) c.state_of.result c.in_ok-state.state c.in_ok-state.ensures
    c.state_of.ensures.started
    ∙ ap (λ (l : List Piece). started c.args.at.now.style.now c.args.at.now.cond.now l true false) c.from_ref.ensures.value)
    c.piece_shown.ensures.shown
