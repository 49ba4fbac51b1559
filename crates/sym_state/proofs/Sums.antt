-- Sums of terms are within the bounds of rows.
use Rattle.std.proofs.Common.{◌≡◌, ℕ, suc, ◌+◌, ◌≤◌, ◌^◌, Bool, true, false, cond, List, [], ◌∷◌, ◌++◌, length, refl, sym, ap, ◌∙◌, append_assoc, arith}
use Rattle.std.specs.Prelude.{ℤ, pos, negsuc, ◌+ℤ◌}
use Rattle.std.specs.List.{All, sum_by}
use Rattle.std.specs.Ordering.{int_eq}
use Rattle.std.proofs.lemmas.Int.{ints}
use Rattle.std.proofs.lemmas.List.Sums.{sum_by-cons}
use Rattle.lin_facts.specs.Rows.{IsWithin, same_term}
use Rattle.lin_facts.specs.declared.row.Part.{Part}
use Rattle.lin_facts.specs.declared.row.Term.{Term}
use Rattle.sym_state.specs.Results.{and_part, kept_part, part, sum_of_two, sum_of_three}
use Rattle.sym_state.specs.WellMade.{IsBounded, size}
use Rattle.sym_state.proofs.Bounds.{each_within, within_size}

pub size_within : (bound : ℕ) (z : ℤ) → IsWithin bound z → size z ≤ bound
size_within bound (pos n) h = omega (arith, ints, h.low, h.high)
size_within bound (negsuc n) h = omega (arith, ints, h.low, h.high)

within_sum : (a b : ℕ) (m n : ℤ) → IsWithin a m → IsWithin b n → IsWithin (a + b) (m +ℤ n)
within_sum a b m n h k = record { low = omega (arith, ints, h.low, k.low); high = omega (arith, ints, h.high, k.high) }

pub size_sum : (m n : ℤ) → size (m +ℤ n) ≤ size m + size n
size_sum m n =
    size_within (size m + size n) (m +ℤ n)
    (within_sum (size m) (size n) m n (within_size (size m) m (omega arith)) (within_size (size n) n (omega arith)))

abbrev pub sizes : List Part → ℕ
sizes parts = sum_by (λ (p : Part). size p.coefficient) parts

pub sizes-cons : (p : Part) (parts : List Part) → sizes (p ∷ parts) ≡ size p.coefficient + sizes parts
sizes-cons p parts = sum_by-cons (λ (q : Part). size q.coefficient) p parts

-- a part that is kept before others adds its size, and is one more
kept_size : (n : ℤ) (t : Term) (parts : List Part) → sizes (kept_part n t parts) ≤ size n + sizes parts
kept_size n t parts =
    elim (int_eq n (pos 0)) as (λ z. sizes (cond z parts (part n t ∷ parts)) ≤ size n + sizes parts) [
      | true ↦ omega arith
      | false ↦ let sum = sizes-cons (part n t) parts in omega (arith, sum)
    ]

kept_length : (n : ℤ) (t : Term) (parts : List Part) → length (kept_part n t parts) ≤ suc (length parts)
kept_length n t parts =
    elim (int_eq n (pos 0)) as (λ z. length (cond z parts (part n t ∷ parts)) ≤ suc (length parts)) [
      | true ↦ omega arith
      | false ↦ omega arith
    ]

-- what is kept before others stands before them
pub kept_before : (n : ℤ) (t : Term) (parts : List Part) → kept_part n t parts ≡ kept_part n t [] ++ parts
kept_before n t parts =
    elim (int_eq n (pos 0)) as (λ z. cond z parts (part n t ∷ parts) ≡ cond z [] (part n t ∷ []) ++ parts) [
      | true ↦ refl
      | false ↦ refl
    ]

-- the parts that were passed, the one that is added to, and those that are left
pub added_to : (n : ℤ) (t : Term) (passed : List Part) (first : Part) (left all : List Part) → same_term first.term t ≡ true
    → passed ++ and_part n t (first ∷ left) ≡ all → (passed ++ kept_part (n +ℤ first.coefficient) t []) ++ left ≡ all
added_to n t passed first left all same e =
    append_assoc passed (kept_part (n +ℤ first.coefficient) t []) left
    ∙ ap (λ (ps : List Part). passed ++ ps) (sym (kept_before (n +ℤ first.coefficient) t left))
    ∙ ap (λ (z : Bool). passed ++ cond z (kept_part (n +ℤ first.coefficient) t left) (first ∷ and_part n t left)) (sym same)
    ∙ e

-- the same where it is added to the first part with its term
pub and_size : (n : ℤ) (t : Term) (parts : List Part) → sizes (and_part n t parts) ≤ size n + sizes parts
and_size n t [] = kept_size n t []
and_size n t (first ∷ parts) =
    elim (same_term first.term t) as (λ z. sizes (cond z (kept_part (n +ℤ first.coefficient) t parts) (first ∷ and_part n t parts)) ≤ size n + sizes (first ∷ parts)) [
      | true ↦
          let kept = kept_size (n +ℤ first.coefficient) t parts in
          let sum = size_sum n first.coefficient in
          let all = sizes-cons first parts in
          omega (arith, kept, sum, all)
      | false ↦
          let more = and_size n t parts in
          let new = sizes-cons first (and_part n t parts) in
          let all = sizes-cons first parts in
          omega (arith, more, new, all)
    ]

pub and_length : (n : ℤ) (t : Term) (parts : List Part) → length (and_part n t parts) ≤ suc (length parts)
and_length n t [] = kept_length n t []
and_length n t (first ∷ parts) =
    elim (same_term first.term t) as (λ z. length (cond z (kept_part (n +ℤ first.coefficient) t parts) (first ∷ and_part n t parts)) ≤ suc (length (first ∷ parts))) [
      | true ↦ let kept = kept_length (n +ℤ first.coefficient) t parts in omega (arith, kept)
      | false ↦ let more = and_length n t parts in omega (arith, more)
    ]

-- the rows of sums are within the bounds of rows
pub two_bounded : (constant m : ℤ) (s : Term) (n : ℤ) (t : Term) → IsWithin (2 ^ 45) constant → IsWithin (2 ^ 40) m → IsWithin (2 ^ 40) n
    → IsBounded (sum_of_two constant m s n t)
two_bounded constant m s n t bound hm hn =
    let parts : List Part = kept_part m s [] in
    let a = kept_length m s [] in
    let b = and_length n t parts in
    let c = kept_size m s [] in
    let d = and_size n t parts in
    let e = size_within (2 ^ 40) m hm in
    let f = size_within (2 ^ 40) n hn in
    let none : sizes [] ≡ 0 = refl in
    record { parts = omega (arith, a, b); constant = bound; coefficients = omega (arith, c, d, e, f, none) }

pub three_bounded : (constant l : ℤ) (r : Term) (m : ℤ) (s : Term) (n : ℤ) (t : Term)
    → IsWithin (2 ^ 45) constant → IsWithin (2 ^ 40) l → IsWithin (2 ^ 40) m → IsWithin (2 ^ 40) n → IsBounded (sum_of_three constant l r m s n t)
three_bounded constant l r m s n t bound hl hm hn =
    let one : List Part = kept_part l r [] in
    let two : List Part = and_part m s one in
    let a = kept_length l r [] in
    let b = and_length m s one in
    let c = and_length n t two in
    let d = kept_size l r [] in
    let e = and_size m s one in
    let f = and_size n t two in
    let g = size_within (2 ^ 40) l hl in
    let h = size_within (2 ^ 40) m hm in
    let i = size_within (2 ^ 40) n hn in
    let none : sizes [] ≡ 0 = refl in
    record { parts = omega (arith, a, b, c); constant = bound; coefficients = omega (arith, d, e, f, g, h, i, none) }

-- the parts of a part, and of two, are within the bound of what is added to
pub one_within : (m : ℤ) (s : Term) → IsWithin (2 ^ 40) m → All (λ p. IsWithin (2 ^ 45) p.coefficient) (and_part m s [])
one_within m s hm =
    let a = kept_size m s [] in
    let b = size_within (2 ^ 40) m hm in
    let none : sizes [] ≡ 0 = refl in
    each_within (2 ^ 45) (kept_part m s []) (omega (arith, a, b, none))

pub two_within : (l : ℤ) (r : Term) (m : ℤ) (s : Term) → IsWithin (2 ^ 40) l → IsWithin (2 ^ 40) m
    → All (λ p. IsWithin (2 ^ 45) p.coefficient) (and_part m s (and_part l r []))
two_within l r m s hl hm =
    let a = kept_size l r [] in
    let b = and_size m s (kept_part l r []) in
    let c = size_within (2 ^ 40) l hl in
    let d = size_within (2 ^ 40) m hm in
    let none : sizes [] ≡ 0 = refl in
    each_within (2 ^ 45) (and_part m s (kept_part l r [])) (omega (arith, a, b, c, d, none))
