-- What calls of the checker give, beside what the rules say (docs/CHECKER.md, "The walk").
use Rattle.std.specs.Prelude.{◌≡◌, ◌≢◌, ◌≤◌, Bool, List, Result, Ok, Err}
use Rattle.std.specs.List.{All}
use Rattle.std.specs.Result.{MatchResult}
use Rattle.bv_base.specs.declared.place.Place.{Place}
use Rattle.bst_meaning.specs.declared.condition.Cond.{Cond}
use Rattle.sym_state.specs.State.{State}
use Rattle.sym_state.specs.Cases.{above_of}
use Rattle.sym_state.specs.Entailing.{line_count}
use Rattle.sym_state.specs.WellMade.{IsBounded}
use Rattle.sym_state.specs.declared.demand.EffectFault.{EffectFault}
use Rattle.sym_state.specs.declared.hint.Hint.{Hint}
use Rattle.sym_state.specs.declared.piece.Piece.{Piece}
use Rattle.sym_state.specs.declared.symbol.Sym.{Sym}
use Rattle.cert_check.specs.declared.refusal.Reason.TheVariants.{NoMemory}
use Rattle.cert_check.specs.declared.refusal.Refusal.{Refusal}
use Rattle.cert_check.specs.Courses.{Course, Walk, placed}

-- a refusal is the one that is wanted, but for want of memory, which is free
abbrev pub Refused : {A : Type 0} → Result A Refusal → Refusal → Type 0
Refused wanted refusal = refusal.reason ≢ NoMemory → wanted ≡ Err refusal

-- what is wanted is what comes next of the value that the call gives, or it gives the refusal
abbrev pub GoesOn : {A T : Type 0} → Result A Refusal → (T → Result A Refusal) → Result T Refusal → Type 0
GoesOn wanted next result = MatchResult result (λ value. wanted ≡ next value) (Refused wanted)

-- what is wanted is there after the call, or it gives the refusal
abbrev pub Takes : {A T : Type 0} → Result A Refusal → A → Result T Refusal → Type 0
Takes wanted after result = GoesOn wanted (λ _. Ok after) result

-- what a rule on states gives is what comes of the value that the call gives, or the call gives the refusal at a place
abbrev pub AnswersAt : {A T : Type 0} → Place → Result A EffectFault → (T → A) → Result T Refusal → Type 0
AnswersAt place wanted of result = MatchResult result (λ value. wanted ≡ Ok (of value)) (Refused (placed place wanted))

-- the course that is wanted has these states at its end, and leaves these hints
pub record Leads (wanted : Walk) (states : List State) (hints : List Hint) : Type 0 where
  pub course : Course
  pub is : wanted ≡ Ok course
  pub given : course.given ≡ states
  pub left : course.hints ≡ hints

-- it has these states at its end, and these hints were found on its way
pub record Finds (wanted : Walk) (states : List State) (hints : List Hint) : Type 0 where
  pub course : Course
  pub is : wanted ≡ Ok course
  pub given : course.given ≡ states
  pub found : course.found ≡ hints

-- the cases of whether an integer is above 0, by hints of which some are left
pub record AreCases (admits : Cond) (state : State) (s : Sym) (cases : List (Bool × State)) : Type 0 where
  pub hints : List Hint
  pub left : List Hint
  pub are : above_of admits state s hints ≡ Ok (record { cases = cases; hints = left })

-- a piece that may be shown
pub record CanEnd (piece : Piece) : Type 0 where
  pub rows : All IsBounded piece.rows
  pub lines : line_count piece ≤ 2147483648
