-- Rows within their bounds are small.
use Rattle.std.proofs.Common.{◌≡◌, ℕ, zero, suc, ◌≤◌, ◌^◌, ap, refl, subst, List, [], ◌∷◌, length, slice_get, Some, arith}
use Rattle.std.specs.Prelude.{ℤ, pos, negsuc}
use Rattle.std.specs.List.{All, sum_by}
use Rattle.std.proofs.lemmas.Int.{ints}
use Rattle.std.proofs.lemmas.List.Elements.{All-nil, All-cons, All-head, All-tail}
use Rattle.std.proofs.lemmas.List.Sums.{sum_by-cons}
use Rattle.lin_facts.specs.Rows.{IsWithin, IsSmall}
use Rattle.lin_facts.specs.declared.row.Part.{Part}
use Rattle.lin_facts.specs.declared.row.Row.{Row}
use Rattle.sym_state.specs.declared.proof.Use.{Use}
use Rattle.sym_state.specs.References.{row_uses}
use Rattle.sym_state.specs.WellMade.{IsBounded, size}

pub within_size : (bound : ℕ) (z : ℤ) → size z ≤ bound → IsWithin bound z
within_size bound (pos n) h = record { low = omega (arith, ints); high = omega (arith, ints) }
within_size bound (negsuc n) h = record { low = omega (arith, ints); high = omega (arith, ints) }

pub each_within : (bound : ℕ) (parts : List Part) → sum_by (λ part. size part.coefficient) parts ≤ bound → All (λ part. IsWithin bound part.coefficient) parts
each_within bound [] h = All-nil (λ part. IsWithin bound part.coefficient)
each_within bound (part ∷ parts) h =
    let sum = sum_by-cons (λ (p : Part). size p.coefficient) part parts in
    All-cons (λ p. IsWithin bound p.coefficient) part parts (within_size bound part.coefficient (omega arith)) (each_within bound parts (omega arith))

pub small_row : (row : Row) → IsBounded row → IsSmall row
small_row row h = record { parts = h.parts; constant = h.constant; coefficients = each_within (2 ^ 45) row.parts h.coefficients }

pub row_uses-length : (k : ℕ) (uses : List Use) → length (row_uses k uses) ≡ length uses
row_uses-length k [] = refl
row_uses-length k (first ∷ uses) = ap (λ (n : ℕ). suc n) (row_uses-length (suc k) uses)

-- a row of a number is within the bounds that all have
pub row_bounded : (rows : List Row) (k : ℕ) (row : Row) → All IsBounded rows → slice_get rows k ≡ Some row → IsBounded row
row_bounded [] k row all e = absurd (cc)
row_bounded (first ∷ rows) zero row all e = let same : first ≡ row = cc in subst IsBounded same (All-head IsBounded first rows all)
row_bounded (first ∷ rows) (suc k) row all e = row_bounded rows k row (All-tail IsBounded first rows all) e
