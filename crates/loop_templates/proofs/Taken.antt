-- The first so many of a list, taken as it grows.
use Rattle.std.proofs.Common.{◌≡◌, ℕ, zero, suc, ◌≤◌, List, [], ◌∷◌, ◌++◌, length, take, ap, sym, ◌∙◌, refl, arith, append_assoc}

-- what is taken of a list may be taken before another is added
pub take_twice : {X : Type 0} (n : ℕ) (xs ys : List X) → take n (take n xs ++ ys) ≡ take n (xs ++ ys)
take_twice zero xs ys = refl
take_twice (suc n) [] ys = refl
take_twice {X} (suc n) (x ∷ xs) ys = ap (λ (rest : List X). x ∷ rest) (take_twice n xs ys)

-- a list of so many is all that is taken, whatever is added
pub take_full : {X : Type 0} (n : ℕ) (xs ys : List X) → n ≤ length xs → length xs ≤ n → take n (xs ++ ys) ≡ xs
take_full zero [] ys full few = refl
take_full zero (x ∷ xs) ys full few = absurd (omega (arith, few))
take_full (suc n) [] ys full few = absurd (omega (arith, full))
take_full {X} (suc n) (x ∷ xs) ys full few =
    ap (λ (rest : List X). x ∷ rest) (take_full n xs ys (omega (arith, full)) (omega (arith, few)))

-- a list of at most so many is taken whole
pub take_room : {X : Type 0} (n : ℕ) (xs : List X) → length xs ≤ n → take n xs ≡ xs
take_room zero [] few = refl
take_room zero (x ∷ xs) few = absurd (omega (arith, few))
take_room (suc n) [] few = refl
take_room {X} (suc n) (x ∷ xs) few = ap (λ (rest : List X). x ∷ rest) (take_room n xs (omega (arith, few)))

-- no more than so many are taken
pub take_few : {X : Type 0} (n : ℕ) (xs : List X) → length (take n xs) ≤ n
take_few zero xs = omega arith
take_few (suc n) [] = omega arith
take_few (suc n) (x ∷ xs) = let rest = take_few n xs in omega (arith, rest)

-- so many rows, some more and the rest are taken as all of them are
pub take_more : {X : Type 0} (n : ℕ) (old one rest all new more : List X)
    → new ≡ take n (old ++ one) → more ≡ one ++ rest → take n (old ++ more) ≡ all → take n (new ++ rest) ≡ all
take_more {X} n old one rest all new more added split before =
    ap (λ (xs : List X). take n (xs ++ rest)) added
    ∙ take_twice n (old ++ one) rest
    ∙ ap (λ (xs : List X). take n xs) (append_assoc old one rest)
    ∙ ap (λ (xs : List X). take n (old ++ xs)) (sym split)
    ∙ before
