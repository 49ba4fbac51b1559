-- What a call that is checked says of the states at its end.
use Rattle.std.proofs.Common.{◌≡◌, List, [], ◌∷◌, Ok, refl}
use Rattle.bv_base.specs.Answers.{then_do}
use Rattle.bv_base.specs.declared.place.Place.{Place}
use Rattle.bv_base.proofs.ThenLemmas.{then_ok}
use Rattle.name_table.specs.declared.names.NameId.{NameId}
use Rattle.name_table.specs.declared.style.Style.{Style}
use Rattle.bst_meaning.specs.declared.condition.Cond.{Cond}
use Rattle.bst_meaning.specs.declared.value.Target.TheVariants.{Named}
use Rattle.cert_format.specs.declared.cert.Cert.{Cert}
use Rattle.refinements.specs.Covered.{IsAmong}
use Rattle.sym_state.specs.State.{State}
use Rattle.sym_state.specs.Showing.{piece_by}
use Rattle.sym_state.specs.declared.hint.Hint.{Hint}
use Rattle.sym_state.specs.declared.piece.Piece.{Piece}
use Rattle.sym_state.specs.declared.symbol.Sym.{Sym}
use Rattle.cert_check.specs.Courses.{Course, placed}
use Rattle.cert_check.specs.Units.{call_walked, none_left}
use Rattle.cert_check.proofs.Ending.{each_passes}
use Rattle.cert_check.proofs.Inverted.{placed_ok}
use Rattle.command_flow.specs.Commands.{call_ends, called, emptied, pieces_shown, state_ends}

-- a state at the end of a call has an empty stack and shows pieces by hints
pub record EndsIn (admits : Cond) (place : Place) (pieces : List Piece) (end : State) : Type 0 where
  pub stack : end.stack ≡ []
  pub hints : List Hint
  pub left : List Hint
  pub shown : pieces_shown admits place end pieces hints ≡ Ok left

no_stack : (place : Place) (stack : List Sym) (hints left : List Hint) → emptied place stack hints ≡ Ok left → stack ≡ []
no_stack place [] hints left e = refl
no_stack place (s ∷ stack) hints left e = absurd (cc)

one_ends : (admits : Cond) (place : Place) (pieces : List Piece) (end : State) (hints left : List Hint) → state_ends admits place pieces end hints ≡ Ok left
    → EndsIn admits place pieces end
one_ends admits place pieces end hints left e =
    let parts = then_ok (emptied place end.stack hints) (pieces_shown admits place end pieces) left e in
    record { stack = no_stack place end.stack hints parts.0 parts.1; hints = parts.0; left = left; shown = parts.2 }

each_ends : (admits : Cond) (place : Place) (pieces : List Piece) (states : List State) (end : State) (hints left : List Hint)
    → call_ends admits place pieces states hints ≡ Ok left → IsAmong end states → EndsIn admits place pieces end
each_ends admits place pieces =
    each_passes (EndsIn admits place pieces) (state_ends admits place pieces) (call_ends admits place pieces) (λ state states hints. refl)
    (one_ends admits place pieces)

-- a call that is checked was walked, and each of its states ends
pub record Walked (style : Style) (cert : Cert) (name : NameId) (place : Place) (state : State) (pieces : List Piece) (hints : List Hint) : Type 0 where
  pub course : Course
  pub walked : call_walked style cert (state ∷ []) (Named name) place hints ≡ Ok course
  pub ends : (end : State) → IsAmong end course.given → EndsIn cert.cond place pieces end

pub called_walked : (style : Style) (cert : Cert) (name : NameId) (place : Place) (state : State) (pieces : List Piece) (hints left : List Hint)
    → called style cert name place state pieces hints ≡ Ok left → Walked style cert name place state pieces hints
called_walked style cert name place state pieces hints left e =
    let walk = then_ok (call_walked style cert (state ∷ []) (Named name) place hints)
    (λ (course : Course). then_do (call_ends cert.cond place pieces course.given course.hints) (none_left place)) left e in
    let ended = then_ok (call_ends cert.cond place pieces walk.0.given walk.0.hints) (none_left place) left walk.2 in
    record {
      course = walk.0;
      walked = walk.1;
      ends = λ end among. each_ends cert.cond place pieces walk.0.given end walk.0.hints ended.0 ended.1 among;
    }

-- the first of some pieces is shown, and so are those behind it
pub record FirstShown (admits : Cond) (place : Place) (state : State) (piece : Piece) (pieces : List Piece) (hints left : List Hint) : Type 0 where
  pub between : List Hint
  pub first : piece_by admits state piece 0 hints ≡ Ok between
  pub rest : pieces_shown admits place state pieces between ≡ Ok left

pub first_shown : (admits : Cond) (place : Place) (state : State) (piece : Piece) (pieces : List Piece) (hints left : List Hint)
    → pieces_shown admits place state (piece ∷ pieces) hints ≡ Ok left → FirstShown admits place state piece pieces hints left
first_shown admits place state piece pieces hints left e =
    let shown = then_ok (placed place (piece_by admits state piece 0 hints)) (pieces_shown admits place state pieces) left e in
    record { between = shown.0; first = placed_ok place (piece_by admits state piece 0 hints) shown.0 shown.1; rest = shown.2 }
