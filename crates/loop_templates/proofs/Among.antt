-- Whether one of a list passes a test, looked at one after the other.
use Rattle.std.proofs.Common.{◌≡◌, ℕ, zero, suc, ◌+◌, ◌≤◌, Bool, true, false, ◌||◌, List, [], ◌∷◌, ◌++◌, length, drop, slice_get, ap, sym, ◌∙◌, refl, add-one, Result, Ok, Err, IfOk}
use Rattle.std.specs.List.{list_any}
use Rattle.std.specs.Option.{option_map_or}
use Rattle.std.proofs.lemmas.List.{drop_all}
use Rattle.std.proofs.lemmas.List.Folds.{list_any-append}

any_from : {X : Type 0} (test : X → Bool) (k : ℕ) (xs : List X)
    → list_any test (drop k xs) ≡ (option_map_or test (slice_get xs k) false || list_any test (drop (suc k) xs))
any_from test zero [] = refl
any_from test (suc k) [] = refl
any_from test zero (x ∷ xs) = refl
any_from test (suc k) (x ∷ xs) = any_from test k xs

-- where one fails, those that are left then decide
pub any_next : {X : Type 0} (test : X → Bool) (k : ℕ) (xs : List X) (all : Bool) → option_map_or test (slice_get xs k) false ≡ false
    → list_any test (drop k xs) ≡ all → list_any test (drop (k + 1) xs) ≡ all
any_next {X} test k xs all fails before =
    ap (λ (n : ℕ). list_any test (drop n xs)) (add-one k)
    ∙ sym (ap (λ (b : Bool). b || list_any test (drop (suc k) xs)) fails)
    ∙ sym (any_from test k xs)
    ∙ before

-- where one passes, one of all does
pub any_here : {X : Type 0} (test : X → Bool) (k : ℕ) (xs : List X) (all : Bool) → option_map_or test (slice_get xs k) false ≡ true
    → list_any test (drop k xs) ≡ all → true ≡ all
any_here {X} test k xs all passes before =
    sym (ap (λ (b : Bool). b || list_any test (drop (suc k) xs)) passes) ∙ sym (any_from test k xs) ∙ before

-- where none is left, none passes
pub any_none : {X : Type 0} (test : X → Bool) (k : ℕ) (xs : List X) (all : Bool) → length xs ≤ k
    → list_any test (drop k xs) ≡ all → false ≡ all
any_none {X} test k xs all done before = sym (ap (λ (left : List X). list_any test left) (drop_all k xs done)) ∙ before

-- where none of some passes, whether one of more does is answered by those behind them
pub any_behind : {X E : Type 0} (test : X → Bool) (xs ys : List X) (r : Result Bool E) → list_any test xs ≡ false
    → IfOk r (λ is. is ≡ list_any test ys) → IfOk r (λ is. is ≡ list_any test (xs ++ ys))
any_behind test xs ys (Ok is) none there = there ∙ sym (list_any-append test xs ys ∙ ap (λ (b : Bool). b || list_any test ys) none)
any_behind test xs ys (Err e) none there = there

-- where one of some passes, one of more does
pub any_before : {X : Type 0} (test : X → Bool) (xs ys : List X) → list_any test xs ≡ true → true ≡ list_any test (xs ++ ys)
any_before test xs ys passes = sym (list_any-append test xs ys ∙ ap (λ (b : Bool). b || list_any test ys) passes)
