-- Sums of a few terms stay within their bounds.
use Rattle.std.proofs.Common.{◌≡◌, ℕ, suc, ◌+◌, ◌≤◌, Bool, true, false, cond, List, [], ◌∷◌, ◌++◌, length, map, ap, refl, arith, ℤ, ◌+ℤ◌}
use Rattle.std.specs.List.{All, filter}
use Rattle.std.proofs.lemmas.Int.{ints}
use Rattle.std.proofs.lemmas.List.Elements.{All-nil, All-cons, All-filter, All-head, All-tail}
use Rattle.lin_facts.specs.Rows.{IsWithin, same_term}
use Rattle.lin_facts.specs.declared.row.Part.{Part}
use Rattle.cert_format.specs.PieceItems.{is_before, is_zero}
use Rattle.sym_state.proofs.Sums.{size_within, sizes, sizes-cons}
use Rattle.sym_state.specs.Renaming.{row_renamed, term_renamed}
use Rattle.sym_state.specs.WellMade.{IsBounded}
use Rattle.straight_proofs.specs.Remainders.{turned}
use Rattle.loop_templates.specs.Rows.{row_of_parts, summed, with_part}
use Rattle.loop_templates.specs.Sums.{IsSmallSum}
use Rattle.loop_templates.proofs.OneByOne.{fewer}

-- each coefficient is within a size
abbrev pub AreWithin : ℕ → List Part → Type 0
AreWithin n parts = All (λ part. IsWithin n part.coefficient) parts

turned_units : (parts : List Part) → AreWithin 1 parts → AreWithin 1 (map turned parts)
turned_units [] h = All-nil (λ part. IsWithin 1 part.coefficient)
turned_units (part ∷ parts) h =
    let here = All-head (λ (p : Part). IsWithin 1 p.coefficient) part parts h in
    All-cons (λ p. IsWithin 1 p.coefficient) (turned part) (map turned parts)
    (record { low = omega (arith, ints, here.high); high = omega (arith, ints, here.low) })
    (turned_units parts (All-tail (λ (p : Part). IsWithin 1 p.coefficient) part parts h))

turned_length : (parts : List Part) → length (map turned parts) ≡ length parts
turned_length [] = refl
turned_length (part ∷ parts) = ap (λ (n : ℕ). suc n) (turned_length parts)

-- a sum with each sign turned is no longer
pub negated_small : (sum : List Part) → IsSmallSum sum → IsSmallSum (map turned sum)
negated_small sum h =
    let few = h.few in
    record {
      few = omega (arith, turned_length sum, few);
      units = turned_units sum h.units;
    }

-- a part with its term renamed
abbrev pub renamed : (ℕ → ℕ) → Part → Part
renamed name part = record { coefficient = part.coefficient; term = term_renamed name part.term }

renamed_length : (name : ℕ → ℕ) (parts : List Part) → length (map (renamed name) parts) ≡ length parts
renamed_length name [] = refl
renamed_length name (part ∷ parts) = ap (λ (n : ℕ). suc n) (renamed_length name parts)

renamed_sizes : (name : ℕ → ℕ) (parts : List Part) → AreWithin 1 parts → sizes (map (renamed name) parts) ≤ length parts
renamed_sizes name [] h = omega arith
renamed_sizes name (part ∷ parts) h =
    let here = size_within 1 part.coefficient (All-head (λ (p : Part). IsWithin 1 p.coefficient) part parts h) in
    let rest = renamed_sizes name parts (All-tail (λ (p : Part). IsWithin 1 p.coefficient) part parts h) in
    let both = sizes-cons (renamed name part) (map (renamed name) parts) in
    omega (arith, here, rest, both)

-- a row of a sum is within its bounds, however its terms are renamed
pub sum_bounded : (name : ℕ → ℕ) (sum : List Part) → IsSmallSum sum → IsBounded (row_renamed name (row_of_parts sum))
sum_bounded name sum h =
    let few = h.few in
    let many = renamed_length name sum in
    let sizes = renamed_sizes name sum h.units in
    record {
      parts = omega (arith, few, many);
      constant = record { low = omega (arith, ints); high = omega (arith, ints) };
      coefficients = omega (arith, few, sizes);
    }

one_more : (n : ℕ) (parts : List Part) → AreWithin n parts → AreWithin (n + 1) parts
one_more n [] h = All-nil (λ part. IsWithin (n + 1) part.coefficient)
one_more n (part ∷ parts) h =
    let here = All-head (λ (p : Part). IsWithin n p.coefficient) part parts h in
    All-cons (λ p. IsWithin (n + 1) p.coefficient) part parts
    (record { low = omega (arith, ints, here.low); high = omega (arith, ints, here.high) })
    (one_more n parts (All-tail (λ (p : Part). IsWithin n p.coefficient) part parts h))

wider : (n : ℕ) (z : ℤ) → IsWithin 1 z → IsWithin (n + 1) z
wider n z h = record { low = omega (arith, ints, h.low); high = omega (arith, ints, h.high) }

summed_within : (n : ℕ) (part first : Part) (parts : List Part) → IsWithin 1 part.coefficient → IsWithin n first.coefficient → AreWithin (n + 1) parts
    → AreWithin (n + 1) (summed part first ++ parts)
summed_within n part first parts one here rest =
    let sum : ℤ = part.coefficient +ℤ first.coefficient in
    let both : Part = record { coefficient = sum; term = first.term } in
    elim (is_zero sum) as (λ b. AreWithin (n + 1) (cond b [] (both ∷ []) ++ parts)) [
      | true ↦ rest
      | false ↦ All-cons (λ p. IsWithin (n + 1) p.coefficient) both parts
          (record { low = omega (arith, ints, one.low, here.low); high = omega (arith, ints, one.high, here.high) }) rest
    ]

-- one part more makes each coefficient greater by at most 1
pub with_part_within : (n : ℕ) (part : Part) (parts : List Part) → IsWithin 1 part.coefficient → AreWithin n parts
    → AreWithin (n + 1) (with_part part parts)
with_part_within n part [] one h =
    All-cons (λ p. IsWithin (n + 1) p.coefficient) part [] (wider n part.coefficient one) (All-nil (λ (p : Part). IsWithin (n + 1) p.coefficient))
with_part_within n part (first ∷ parts) one h =
    let here = All-head (λ (p : Part). IsWithin n p.coefficient) first parts h in
    let rest = All-tail (λ (p : Part). IsWithin n p.coefficient) first parts h in
    let more = one_more n (first ∷ parts) h in
    elim (is_before part.term first.term)
    as (λ b. AreWithin (n + 1) (cond b (part ∷ (first ∷ parts)) (cond (same_term part.term first.term) (summed part first ++ parts) (first ∷ with_part part parts)))) [
      | true ↦ All-cons (λ p. IsWithin (n + 1) p.coefficient) part (first ∷ parts) (wider n part.coefficient one) more
      | false ↦ elim (same_term part.term first.term) as (λ b. AreWithin (n + 1) (cond b (summed part first ++ parts) (first ∷ with_part part parts))) [
        | true ↦ summed_within n part first parts one here (one_more n parts rest)
        | false ↦ All-cons (λ p. IsWithin (n + 1) p.coefficient) first (with_part part parts)
            (All-head (λ (p : Part). IsWithin (n + 1) p.coefficient) first parts more) (with_part_within n part parts one rest)
      ]
    ]

-- a sum with parts left out is small too
pub kept_small : (test : Part → Bool) (sum : List Part) → IsSmallSum sum → IsSmallSum (filter test sum)
kept_small test sum h =
    let few = h.few in
    let kept = fewer test sum in
    record {
      few = omega (arith, few, kept);
      units = All-filter test (λ part. IsWithin 1 part.coefficient) sum h.units;
    }
