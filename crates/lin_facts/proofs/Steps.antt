-- One more item of a list that a loop goes over.
use Rattle.std.proofs.Common.{◌≡◌, ℕ, ◌+◌, ◌*◌, ◌^◌, ◌<◌, arith, ◌&&◌, Bool, true, false, cond, List, ◌∷◌, length, drop, get_or, ap, ◌∙◌, add-one}
use Rattle.std.proofs.Math.Seq.{drop-cons}
use Rattle.std.specs.Prelude.{ℤ, pos, ◌+ℤ◌, ◌*ℤ◌}
use Rattle.std.specs.List.{All, list_all}
use Rattle.std.proofs.lemmas.Int.{ints}
use Rattle.lin_facts.specs.Rows.{same_term, coefficient_of, IsWithin}
use Rattle.lin_facts.specs.Follows.{row_at, entry, summed}
use Rattle.lin_facts.specs.declared.row.Term.{Term}
use Rattle.lin_facts.specs.declared.row.Term.TheVariants.{Value}
use Rattle.lin_facts.specs.declared.row.Part.{Part}
use Rattle.lin_facts.specs.declared.row.Row.{Row}
use Rattle.lin_facts.specs.declared.row.StepUse.{StepUse}
use Rattle.lin_facts.specs.declared.follows.Column.{Column}

pub next_of : {X : Type 0} (xs : List X) (i : ℕ) (d : X) → i < length xs → drop i xs ≡ get_or xs i d ∷ drop (i + 1) xs
next_of xs i d h = rw (add-one, drop-cons xs i d h)

pub list_all-next : {X : Type 0} (f : X → Bool) (xs : List X) (i : ℕ) (d : X) → i < length xs → list_all f (drop i xs) ≡ (f (get_or xs i d) && list_all f (drop (i + 1) xs))
list_all-next f xs i d h = ap (list_all f) (next_of xs i d h)

pub coefficient-next : (parts : List Part) (t : Term) (i : ℕ) (d : Part) → i < length parts → coefficient_of (drop i parts) t ≡ (cond (same_term (get_or parts i d).term t) (get_or parts i d).coefficient (pos 0) +ℤ coefficient_of (drop (i + 1) parts) t)
coefficient-next parts t i d h = ap (λ ps. coefficient_of ps t) (next_of parts i d h)

pub summed-next : (rows : List Row) (column : Column) (uses : List StepUse) (i : ℕ) (d : StepUse) → i < length uses → summed rows column (drop i uses) ≡ (pos (get_or uses i d).times *ℤ entry column (row_at rows (get_or uses i d).row) +ℤ summed rows column (drop (i + 1) uses))
summed-next rows column uses i d h = ap (summed rows column) (next_of uses i d h)

-- what a loop reads past the end of its list
abbrev pub no_part : Part
no_part = record { coefficient = pos 0; term = Value 0 }

abbrev pub no_use : StepUse
no_use = record { row = 0; times = 0 }

pub list_all-pass : {X : Type 0} (f : X → Bool) (xs : List X) (i : ℕ) (d : X) → i < length xs → f (get_or xs i d) ≡ true → list_all f xs ≡ list_all f (drop i xs) → list_all f xs ≡ list_all f (drop (i + 1) xs)
list_all-pass f xs i d h passes so_far = so_far ∙ list_all-next f xs i d h ∙ ap (λ b. b && list_all f (drop (i + 1) xs)) passes

-- what a part adds to a coefficient
abbrev pub added : Part → Term → ℤ
added part t = cond (same_term part.term t) part.coefficient (pos 0)

added_within : (bound : ℕ) (part : Part) (t : Term) → IsWithin bound part.coefficient → IsWithin bound (added part t)
added_within bound part t small = elim (same_term part.term t) as (λ b. IsWithin bound (cond b part.coefficient (pos 0))) [
  | true ↦ small
  | false ↦ record { low = omega (arith, ints); high = omega (arith, ints) }
]

pub coefficient_kept :
    (parts : List Part) (t : Term) (i : ℕ) (sum next : ℤ) → i < length parts → next ≡ (sum +ℤ added (get_or parts i no_part) t) →
    coefficient_of parts t ≡ (sum +ℤ coefficient_of (drop i parts) t) → coefficient_of parts t ≡ (next +ℤ coefficient_of (drop (i + 1) parts) t)
coefficient_kept parts t i sum next h is so_far = omega (arith, ints, is, so_far, coefficient-next parts t i no_part h)

-- one part more makes a sum of coefficients greater by the bound of each at most
pub coefficient_size :
    (bound so_far with_next : ℕ) (parts : List Part) (t : Term) (i : ℕ) (sum next : ℤ) → i < length parts →
    with_next ≡ so_far + bound → next ≡ (sum +ℤ added (get_or parts i no_part) t) →
    All (λ part. IsWithin bound part.coefficient) parts → IsWithin so_far sum → IsWithin with_next next
coefficient_size bound so_far with_next parts t i sum next h more is small size =
    let here = added_within bound (get_or parts i no_part) t (small i no_part h) in
    record {
      low = omega (arith, ints, more, is, here.low, size.low);
      high = omega (arith, ints, more, is, here.high, size.high);
    }

pub summed_kept :
    (rows : List Row) (column : Column) (uses : List StepUse) (i : ℕ) (sum next : ℤ) → i < length uses →
    next ≡ (sum +ℤ (pos (get_or uses i no_use).times *ℤ entry column (row_at rows (get_or uses i no_use).row))) →
    summed rows column uses ≡ (sum +ℤ summed rows column (drop i uses)) → summed rows column uses ≡ (next +ℤ summed rows column (drop (i + 1) uses))
summed_kept rows column uses i sum next h is so_far = omega (arith, ints, is, so_far, summed-next rows column uses i no_use h)

pub summed_size :
    (i : ℕ) (sum next more : ℤ) → next ≡ (sum +ℤ more) → IsWithin (2 ^ 82) more →
    IsWithin (i * 4835703278458516698824704) sum → IsWithin ((i + 1) * 4835703278458516698824704) next
summed_size i sum next more is here so_far = record {
  low = omega (arith, ints, is, here.low, so_far.low);
  high = omega (arith, ints, is, here.high, so_far.high);
}
