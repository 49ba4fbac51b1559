-- A unit's own check ends by its posts, and what comes after the use is safe where it ends.
use Rattle.std.proofs.Common.{◌≡◌, ℕ, zero, suc, Bool, true, false, cond, nat_eq, List, [], ◌∷◌, length, map, slice_get, Option, None, Some, Result, Ok, Err, refl, sym, ap, subst, ◌∙◌, arith, inl, inr}
use Rattle.std.specs.List.{list_all}
use Rattle.std.proofs.lemmas.Bool.Decides.{nat_tests}
use Rattle.bv_base.specs.Answers.{then_do}
use Rattle.bv_base.specs.declared.place.Place.{Place}
use Rattle.bv_base.proofs.ThenLemmas.{then_ok}
use Rattle.bst_meaning.specs.Config.{Frame}
use Rattle.bst_meaning.specs.declared.condition.Cond.{Cond}
use Rattle.bst_meaning.specs.EntryLists.{EntryList}
use Rattle.sym_state.specs.State.{State}
use Rattle.sym_state.specs.Showing.{Shown, piece_by}
use Rattle.sym_state.specs.declared.demand.EffectFault.TheVariants.{NotEntailed}
use Rattle.sym_state.specs.declared.hint.Hint.{Hint}
use Rattle.sym_state.specs.declared.hint.Hint.TheVariants as hint
use Rattle.sym_state.specs.declared.piece.Piece.{Piece}
use Rattle.refinements.specs.Covered.{IsAmong}
use Rattle.refinements.proofs.Covering.{among_later}
use Rattle.cert_check.specs.Courses.{Course, gives_all}
use Rattle.cert_check.specs.Units.{all_end, ends, ends_by}
use Rattle.cert_check.specs.Uses.{left_state}
use Rattle.cert_check.specs.Walks.{Scope, may_write}
use Rattle.cert_check.proofs.Inverted.{gives_all_ok}
use Rattle.cert_check.proofs.OwnEnd.{EndOf, EndsIn}
use Rattle.cert_check.proofs.OwnLeft.{left_reached, left_values}
use Rattle.cert_check.proofs.OwnStart.{Used}
use Rattle.cert_check.proofs.Safety.{Reaches, SafeAfter, SafeFor}

post_ends : (admits : Cond) (kept : ℕ) (posts : List Piece) (end : State) (k : ℕ) (found : Option Piece) (hints left : List Hint) → slice_get posts k ≡ found
    → ends_by admits kept found end hints ≡ Ok left → EndsIn admits kept posts end
post_ends admits kept posts end k None hints left is e = absurd (cc)
post_ends admits kept posts end k (Some post) hints left is e =
    elim (nat_eq (length end.stack) (length post.stack)) as (λ (t : Bool). nat_eq (length end.stack) (length post.stack) ≡ t
    → (let shown : Shown = cond t (piece_by admits end post kept hints) (Err (NotEntailed 0)) in shown) ≡ Ok left → EndsIn admits kept posts end) [
      | true ↦ λ same found.
          record { k = k; post = post; there = is; hints = hints; left = left; shown = found; same = numbers (length end.stack) (length post.stack) same }
      | false ↦ λ same found. absurd (cc)
    ] refl e
  where
    numbers : (m n : ℕ) → nat_eq m n ≡ true → m ≡ n
    numbers m n e = grind (arith, nat_tests)

one_ends : (admits : Cond) (kept : ℕ) (posts : List Piece) (end : State) (hints left : List Hint) → ends admits kept posts end hints ≡ Ok left
    → EndsIn admits kept posts end
one_ends admits kept posts end [] left e = absurd (cc)
one_ends admits kept posts end (hint.Case k ∷ hints) left e = post_ends admits kept posts end k (slice_get posts k) hints left refl e
one_ends admits kept posts end (_ ∷ hints) left e = absurd (cc)

-- what holds of each that passes holds of one among those that pass one after the other
pub each_passes : {X S E : Type 0} (P : X → Type 0) (step : X → S → Result S E) (all : List X → S → Result S E)
    → ((x : X) (xs : List X) (s : S) → all (x ∷ xs) s ≡ then_do (step x s) (all xs)) → ((x : X) (s t : S) → step x s ≡ Ok t → P x)
    → (xs : List X) (x : X) (s t : S) → all xs s ≡ Ok t → IsAmong x xs → P x
each_passes P step all goes holds [] x s t e among = absurd among
each_passes P step all goes holds (first ∷ xs) x s t e among =
    let one = then_ok (step first s) (all xs) t (sym (goes first xs s) ∙ e) in
    elim among [
      | inl is ↦ subst P (sym is) (holds first s one.0 one.1)
      | inr later ↦ each_passes P step all goes holds xs x one.0 t one.2 later
    ]

-- each of the states does
pub each_ends : (admits : Cond) (kept : ℕ) (posts : List Piece) (states : List State) (end : State) (hints left : List Hint)
    → all_end admits kept posts states hints ≡ Ok left → IsAmong end states → EndsIn admits kept posts end
each_ends admits kept posts =
    each_passes (EndsIn admits kept posts) (ends admits kept posts) (all_end admits kept posts) (λ state states hints. refl) (one_ends admits kept posts)

-- what it gives is among what all give
given_there : {X : Type 0} (f : X → State) (xs : List X) (k : ℕ) (x : X) → slice_get xs k ≡ Some x → IsAmong (f x) (map f xs)
given_there f [] k x e = absurd (cc)
given_there {X} f (y ∷ xs) zero x e = let same : x ≡ y = cc in inl (ap f same)
given_there f (y ∷ xs) (suc k) x e = inr (given_there f xs k x e)

-- where the own check ends in a post, what comes after the state that is left by it is safe
pub left_safe : (scope : Scope) (list : EntryList) (n : ℕ) (place : Place) (frames : List Frame) (u : Used scope list) (course after : Course)
    → list_all (may_write scope.writes) u.unit.writes ≡ true
    → gives_all place (map (left_state scope.style scope.cert.cond u.unit u.pre u.kept u.s.state) u.posts) course ≡ Ok after
    → SafeAfter scope list n frames u.s after.given → (k : ℕ) (e : EndOf scope list u) → slice_get u.posts k ≡ Some e.post → e.d.frames ≡ frames
    → SafeFor scope.style n e.d
left_safe scope list n place frames u course after may given safe k e there waiting =
    let leave : Piece → State = left_state scope.style scope.cert.cond u.unit u.pre u.kept u.s.state in
    safe (leave e.post) (left_values scope list u e) e.d
    (subst (λ (c : Course). IsAmong (leave e.post) c.given) (sym (gives_all_ok place (map leave u.posts) course after given))
    (among_later (leave e.post) course.given (map leave u.posts) (given_there leave u.posts k e.post there)))
    (subst (λ (fs : List Frame). Reaches scope list fs u.s (leave e.post) (left_values scope list u e) e.d) waiting (left_reached scope list u e may))
