-- The piece is that of the visit where no entry was visited, and the state is the one before all visits.
use Rattle.std.proofs.Common.{◌≡◌, true, false, List, [], ◌∷◌, ap, sym, subst, ◌∙◌}
use Rattle.std.specs.List.{All}
use Rattle.std.proofs.lemmas.Result.{IfOk-weaker}
use Rattle.sym_state.specs.Positions.{AtStart}
use Rattle.sym_state.specs.Starting.{started}
use Rattle.sym_state.specs.State.{State}
use Rattle.sym_state.specs.WellMade.{IsBounded}
use Rattle.sym_state.specs.declared.piece.Piece.{Piece}
use Rattle.straight_hints.specs.Found.{piece_hints}
use Rattle.straight_hints.specs.declared.finding.Finding.TheVariants.{Straight}
use Rattle.command_flow.specs.Between.{piece_moved}
use Rattle.command_flow.proofs.Shaped.{rows_bounded}
use Rattle.command_flow.proofs.templates.beginning_hints.Goals as goal

pub piece_hints-requires-clause-rows : goal.piece_hints-requires-clause-rows
piece_hints-requires-clause-rows c =
    subst (λ (piece : Piece). All IsBounded piece.rows) (sym c.in_ok-begun.ensures)
    (rows_bounded AtStart c.args.visit.now.rows c.requires.visit.ready.fit.rows c.requires.visit.movable)

pub returns : goal.returns
returns c =
    let style = c.args.at.now.style.now in
    let admits = c.args.at.now.cond.now in
    let state : State = started style admits (c.args.globals.now ∷ []) true false in
    IfOk-weaker c.piece_hints.result (λ hints. hints.items ≡ piece_hints Straight admits c.in_ok-before.before c.in_ok-begun.begun)
    (λ hints. hints.items ≡ piece_hints Straight admits state (piece_moved AtStart c.args.visit.now))
    (λ hints is. is
    ∙ ap (λ (s : State). piece_hints Straight admits s c.in_ok-begun.begun)
    (c.in_ok-before.ensures.started ∙ ap (λ (l : List Piece). started style admits l true false) c.from_ref.ensures.value)
    ∙ ap (λ (p : Piece). piece_hints Straight admits state p) c.in_ok-begun.ensures) c.piece_hints.ensures.hints
