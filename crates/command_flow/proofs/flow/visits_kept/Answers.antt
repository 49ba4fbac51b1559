-- What is kept can end a call, and what is moved too.
use Rattle.std.proofs.Common.{◌≡◌, [], ◌∷◌, sym, subst}
use Rattle.std.proofs.lemmas.List.Elements.{All-cons, All-nil}
use Rattle.sym_state.specs.Positions.{AtNext}
use Rattle.sym_state.specs.declared.piece.Piece.{Piece}
use Rattle.cert_check.specs.Given.{CanEnd}
use Rattle.command_flow.specs.Between.{piece_moved}
use Rattle.command_flow.proofs.Flowing.{ok_has}
use Rattle.command_flow.proofs.Ready.{ready_ends, ready_moved}
use Rattle.command_flow.proofs.flow.visits_kept.Goals as goal

pub visit_walked-requires-clause-ends : goal.visit_walked-requires-clause-ends
visit_walked-requires-clause-ends c =
    let moved : Piece = piece_moved AtNext c.args.visit in
    All-cons CanEnd c.in_ok-next.next (c.args.keeps ∷ [])
    (subst CanEnd (sym (ok_has (λ (p : Piece). p ≡ moved) c.piece_moved.result c.in_ok-next.next c.in_ok-next.ensures c.piece_moved.ensures))
    (ready_ends c.args.at.now.style.now moved (ready_moved c.args.at.now.style.now AtNext c.args.visit c.requires.visit c.requires.movable)))
    (All-cons CanEnd c.args.keeps [] (ready_ends c.args.at.now.style.now c.args.keeps c.requires.keeps) (All-nil CanEnd))
