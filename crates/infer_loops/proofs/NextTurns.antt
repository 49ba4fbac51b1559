-- Turns from cases, one after the other.
use Rattle.std.proofs.Common.{◌≡◌, ◌≢◌, refl, ℕ, ◌+◌, ◌<◌, ◌≤◌, List, [], ◌∷◌, ◌++◌, length, map, get_or, drop, Option, None, Some, Result, Ok, Err, IfOk, sym, ap, ◌∙◌, subst}
use Rattle.std.specs.Prelude.{IfSome, IsErrAnd}
use Rattle.std.specs.List.{All}
use Rattle.std.specs.Result.{result_ok}
use Rattle.std.proofs.lemmas.List.{drop_all}
use Rattle.std.proofs.lemmas.List.Elements.{All-nil}
use Rattle.bv_base.specs.Answers.{then_do}
use Rattle.bv_base.specs.declared.memory.NoMemory.{NoMemory as Wanting}
use Rattle.name_table.specs.declared.style.Style.{Style}
use Rattle.sym_state.specs.declared.piece.Piece.{Piece}
use Rattle.loop_templates.specs.declared.candidates.Added.{Added}
use Rattle.loop_templates.proofs.OneByOne.{next_left}
use Rattle.cert_check.specs.Given.{Refused, Takes}
use Rattle.cert_check.specs.Tours.{HasEnds, KeepsTour, Toured, turn_of, turns_of}
use Rattle.cert_check.specs.Walks.{Scope}
use Rattle.cert_check.specs.declared.refusal.Reason.TheVariants.{NoMemory}
use Rattle.cert_check.specs.declared.refusal.Refusal.{Refusal}
use Rattle.cert_check.specs.declared.tours.Tour.{Tour}
use Rattle.cert_check.specs.declared.tours.Turning.{Turning}
use Rattle.infer_loops.specs.Invariants.{added_cases}

-- the turn from the next case, and those from the ones that are left
from_next : (scope : Scope) (one : Turning) (case : Piece) (rest : List Piece) (cases : List Piece) (tour : Tour) (whole : Toured) → cases ≡ case ∷ rest
    → turns_of scope one cases tour ≡ whole → then_do (turn_of scope one case tour) (turns_of scope one rest) ≡ whole
from_next scope one case rest cases tour whole is before = sym (ap (λ (l : List Piece). turns_of scope one l tour) is) ∙ before

went_on : (scope : Scope) (one : Turning) (case : Piece) (rest cases : List Piece) (tour mid : Tour) (whole : Toured) → cases ≡ case ∷ rest
    → turns_of scope one cases tour ≡ whole → turn_of scope one case tour ≡ Ok mid → turns_of scope one rest mid ≡ whole
went_on scope one case rest cases tour mid whole is before e =
    sym (ap (λ (w : Toured). then_do w (turns_of scope one rest)) e) ∙ from_next scope one case rest cases tour whole is before

stopped : (scope : Scope) (one : Turning) (case : Piece) (rest cases : List Piece) (tour : Tour) (whole : Toured) (refusal : Refusal) → cases ≡ case ∷ rest
    → turns_of scope one cases tour ≡ whole → Refused (turn_of scope one case tour) refusal → Refused whole refusal
stopped scope one case rest cases tour whole refusal is before refused differs =
    sym (from_next scope one case rest cases tour whole is before) ∙ ap (λ (w : Toured). then_do w (turns_of scope one rest)) (refused differs)

pub next_turn : (scope : Scope) (one : Turning) (cases : List Piece) (k : ℕ) (case : Piece) (tour mid : Tour) (whole : Toured)
    → k < length cases → case ≡ get_or cases k case → turns_of scope one (drop k cases) tour ≡ whole → turn_of scope one case tour ≡ Ok mid
    → turns_of scope one (drop (k + 1) cases) mid ≡ whole
next_turn scope one cases k case tour mid whole more is before e =
    went_on scope one case (drop (k + 1) cases) (drop k cases) tour mid whole (next_left cases k case more is) before e

pub turn_stops : (scope : Scope) (one : Turning) (cases : List Piece) (k : ℕ) (case : Piece) (tour : Tour) (whole : Toured) (refusal : Refusal)
    → k < length cases → case ≡ get_or cases k case → turns_of scope one (drop k cases) tour ≡ whole → Refused (turn_of scope one case tour) refusal
    → Refused whole refusal
turn_stops scope one cases k case tour whole refusal more is before refused =
    stopped scope one case (drop (k + 1) cases) (drop k cases) tour whole refusal (next_left cases k case more is) before refused

-- where no case is left
pub turns_done : (scope : Scope) (one : Turning) (cases : List Piece) (k : ℕ) (tour : Tour) (whole : Toured) → length cases ≤ k
    → turns_of scope one (drop k cases) tour ≡ whole → whole ≡ Ok tour
turns_done scope one cases k tour whole done before =
    sym before ∙ ap (λ (l : List Piece). turns_of scope one l tour) (drop_all k cases done)

-- the same of cases that were added
next_added_is : (added : List Added) (k : ℕ) (case : Added) → k < length added → case ≡ get_or added k case
    → added_cases (drop k added) ≡ case.case ∷ added_cases (drop (k + 1) added)
next_added_is added k case more is = ap added_cases (next_left added k case more is)

pub next_added : (scope : Scope) (one : Turning) (added : List Added) (k : ℕ) (case : Added) (tour mid : Tour) (whole : Toured)
    → k < length added → case ≡ get_or added k case → turns_of scope one (added_cases (drop k added)) tour ≡ whole → turn_of scope one case.case tour ≡ Ok mid
    → turns_of scope one (added_cases (drop (k + 1) added)) mid ≡ whole
next_added scope one added k case tour mid whole more is before e =
    went_on scope one case.case (added_cases (drop (k + 1) added)) (added_cases (drop k added)) tour mid whole (next_added_is added k case more is) before e

pub added_stops : (scope : Scope) (one : Turning) (added : List Added) (k : ℕ) (case : Added) (tour : Tour) (whole : Toured) (refusal : Refusal)
    → k < length added → case ≡ get_or added k case → turns_of scope one (added_cases (drop k added)) tour ≡ whole
    → Refused (turn_of scope one case.case tour) refusal → Refused whole refusal
added_stops scope one added k case tour whole refusal more is before refused =
    stopped scope one case.case (added_cases (drop (k + 1) added)) (added_cases (drop k added)) tour whole refusal (next_added_is added k case more is) before refused

pub added_done : (scope : Scope) (one : Turning) (added : List Added) (k : ℕ) (tour : Tour) (whole : Toured) → length added ≤ k
    → turns_of scope one (added_cases (drop k added)) tour ≡ whole → whole ≡ Ok tour
added_done scope one added k tour whole done before =
    sym before ∙ ap (λ (l : List Added). turns_of scope one (added_cases l) tour) (drop_all k added done)

-- a refusal that is handed on
pub handed_on : {T : Type 0} (whole : Toured) (after : Tour) (r : Result T Refusal) (refusal : Refusal) → IsErrAnd r (λ it. it ≡ refusal) → Refused whole refusal
    → Takes whole after r
handed_on whole after (Ok done) refusal is refused = absurd is
handed_on whole after (Err it) refusal is refused = subst (Refused whole) (sym is) refused

-- turns from some cases and then from others
behind_one : (scope : Scope) (one : Turning) (first added : List Piece) (w : Toured)
    → ((mid : Tour) → turns_of scope one (first ++ added) mid ≡ then_do (turns_of scope one first mid) (turns_of scope one added))
    → then_do w (turns_of scope one (first ++ added)) ≡ then_do (then_do w (turns_of scope one first)) (turns_of scope one added)
behind_one scope one first added (Ok mid) later = later mid
behind_one scope one first added (Err refusal) later = refl

both_turns : (scope : Scope) (one : Turning) (first added : List Piece) (tour : Tour)
    → turns_of scope one (first ++ added) tour ≡ then_do (turns_of scope one first tour) (turns_of scope one added)
both_turns scope one [] added tour = refl
both_turns scope one (case ∷ first) added tour =
    behind_one scope one first added (turn_of scope one case tour) (λ mid. both_turns scope one first added mid)

pub both_take : {T : Type 0} (scope : Scope) (one : Turning) (first added : List Piece) (tour mid after : Tour) (r : Result T Refusal)
    → turns_of scope one first tour ≡ Ok mid → Takes (turns_of scope one added mid) after r → Takes (turns_of scope one (first ++ added) tour) after r
both_take {T} scope one first added tour mid after r e takes =
    subst (λ (w : Toured). Takes w after r)
    (sym (both_turns scope one first added tour ∙ ap (λ (w : Toured). then_do w (turns_of scope one added)) e)) takes

pub first_stops : (scope : Scope) (one : Turning) (first added : List Piece) (tour : Tour) (refusal : Refusal)
    → Refused (turns_of scope one first tour) refusal → Refused (turns_of scope one (first ++ added) tour) refusal
first_stops scope one first added tour refusal refused differs =
    both_turns scope one first added tour ∙ ap (λ (w : Toured). then_do w (turns_of scope one added)) (refused differs)

-- a tour whose turns fail
pub none_toured : (wanted : Toured) (refusal : Refusal) (r : Result (Option Tour) Wanting) → Refused wanted refusal
    → IfOk r (λ tour. (tour ≡ None) × (refusal.reason ≢ NoMemory)) → IfOk r (λ tour. tour ≡ result_ok wanted)
none_toured wanted refusal (Ok tour) refused h = h.0 ∙ sym (ap (λ (w : Toured). result_ok w) (refused h.1))
none_toured wanted refusal (Err e) refused h = h

pub none_ends : (style : Style) (refusal : Refusal) (r : Result (Option Tour) Wanting)
    → IfOk r (λ tour. (tour ≡ None) × (refusal.reason ≢ NoMemory)) → IfOk r (λ tour. IfSome tour (HasEnds style))
none_ends style refusal (Ok tour) h = subst (λ (found : Option Tour). IfSome found (HasEnds style)) (sym h.0) tt
none_ends style refusal (Err e) h = h
