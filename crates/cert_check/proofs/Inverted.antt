-- What the steps of a walk that is Ok give.
use Rattle.std.proofs.Common.{◌≡◌, ℕ, ◌+◌, Bool, true, false, cond, List, [], ◌∷◌, ◌++◌, Result, Ok, Err, refl, sym, ap, ◌∙◌, append_assoc}
use Rattle.std.proofs.lemmas.List.{append-nil}
use Rattle.bv_base.specs.declared.place.Place.{Place}
use Rattle.bv_base.proofs.ThenLemmas.{ok_is, then_ok}
use Rattle.sym_state.specs.State.{State}
use Rattle.sym_state.specs.Demands.{After, Outcome}
use Rattle.sym_state.specs.declared.demand.EffectFault.{EffectFault}
use Rattle.sym_state.specs.declared.demand.EffectFault.TheVariants as fault
use Rattle.cert_check.specs.declared.refusal.Refusal.{Refusal}
use Rattle.cert_check.specs.Courses.{Course, counts, gives, gives_all, placed}
use Rattle.cert_check.specs.Walks.{confined}

pub placed_ok : {X : Type 0} (place : Place) (r : Result X EffectFault) (x : X) → placed place r ≡ Ok x → r ≡ Ok x
placed_ok place (Ok y) x e = cc
placed_ok place (Err fault) x e = absurd (cc)

within_ok : (t : Bool) (course after : Course) (refusal : Refusal) → cond t (Ok course) (Err refusal) ≡ Ok after → after ≡ course
within_ok true course after refusal e = ok_is course after e
within_ok false course after refusal e = absurd (cc)

pub counts_ok : (n : ℕ) (place : Place) (course after : Course) → counts n place course ≡ Ok after
    → after ≡ record course { count = course.count + n }
counts_ok n place course after e = within_ok _ _ after _ e

pub gives_ok : (place : Place) (state : State) (course after : Course) → gives place state course ≡ Ok after
    → after ≡ record course { given = course.given ++ state ∷ [] }
gives_ok place state course after e = within_ok _ _ after _ e

pub gives_all_ok : (place : Place) (states : List State) (course after : Course) → gives_all place states course ≡ Ok after
    → after ≡ record course { given = course.given ++ states }
gives_all_ok place [] course after e =
    ok_is course after e ∙ ap (λ (l : List State). record course { given = l }) (sym (append-nil course.given))
gives_all_ok place (state ∷ states) course after e =
    let first = then_ok (gives place state course) (gives_all place states) after e in
    let one = gives_ok place state course first.0 first.1 in
    gives_all_ok place states first.0 after first.2
    ∙ ap (λ (c : Course). record c { given = c.given ++ states }) one
    ∙ ap (λ (l : List State). record course { given = l }) (append_assoc course.given (state ∷ []) states)

pub confined_ok : (t : Bool) (outcome : Outcome) (after : After) → confined t outcome ≡ Ok after → (t ≡ true) × (outcome ≡ Ok after)
confined_ok true outcome after e = (refl, e)
confined_ok false (Ok a) after e = absurd (cc)
confined_ok false (Err (fault.Demand demand)) after e = absurd (cc)
confined_ok false (Err _) after e = absurd (cc)
