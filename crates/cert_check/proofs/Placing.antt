-- Rules on states that are taken at a place.
use Rattle.std.proofs.Common.{◌≡◌, List, Result, Ok, Err, sym, ap, subst}
use Rattle.std.specs.Result.{MatchResult}
use Rattle.bv_base.specs.Answers.{Leaves}
use Rattle.bv_base.specs.declared.place.Place.{Place}
use Rattle.sym_state.specs.declared.demand.EffectFault.{EffectFault}
use Rattle.sym_state.specs.declared.demand.EffectFault.TheVariants.{NoMemory}
use Rattle.sym_state.specs.declared.hint.Hint.{Hint}
use Rattle.cert_check.specs.declared.refusal.Refusal.{Refusal}
use Rattle.cert_check.specs.Courses.{placed, reason_of}
use Rattle.cert_check.specs.Given.{Refused}

-- what leaves the hints that are wanted leaves them at a place too, or is refused there
pub placed_leaves : {T : Type 0} (place : Place) (wanted : Result (List Hint) EffectFault) (left : List Hint) (given : Result T EffectFault)
    (answer : Result T Refusal) → answer ≡ placed place given → Leaves NoMemory wanted left given
    → MatchResult answer (λ _. wanted ≡ Ok left) (Refused (placed place wanted))
placed_leaves {T} place wanted left (Ok x) answer is leaves =
    subst (λ (a : Result T Refusal). MatchResult a (λ _. wanted ≡ Ok left) (Refused (placed place wanted))) (sym is) leaves
placed_leaves {T} place wanted left (Err fault) answer is leaves =
    subst (λ (a : Result T Refusal). MatchResult a (λ _. wanted ≡ Ok left) (Refused (placed place wanted))) (sym is)
    (λ differs. ap (placed place) (leaves (λ same. differs (ap reason_of same))))
