-- The first of the commands that takes steps.
use Rattle.std.proofs.Common.{◌≡◌, ℕ, suc, ◌<◌, Bool, true, cond, List, ◌∷◌, length, drop, drop-cons, get_or, sym, ap, ◌∙◌}
use Rattle.std.specs.List.{filter}

first_passes : {A : Type 0} (p : A → Bool) (x : A) (rest : List A) → p x ≡ true → filter p (x ∷ rest) ≡ x ∷ filter p rest
first_passes p x rest passes = ap (λ t. cond t (x ∷ filter p rest) (filter p rest)) passes

-- where those before it don't pass a test, the first that does is the first of all that do
pub first_found : {A : Type 0} (p : A → Bool) (i : ℕ) (xs : List A) (d : A) → i < length xs → p (get_or xs i d) ≡ true
    → filter p (drop i xs) ≡ filter p xs → filter p xs ≡ get_or xs i d ∷ drop 1 (filter p xs)
first_found {A} p i xs d within passes same =
    let is : filter p xs ≡ get_or xs i d ∷ filter p (drop (suc i) xs) =
    sym same ∙ ap (λ (l : List A). filter p l) (drop-cons xs i d within) ∙ first_passes p (get_or xs i d) (drop (suc i) xs) passes in
    is ∙ sym (ap (λ (l : List A). get_or xs i d ∷ drop 1 l) is)
