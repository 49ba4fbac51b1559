-- Sorting changes the order of entries alone.
use Rattle.std.proofs.Common.{Bool, true, false, cond, List, [], ◌∷◌}
use Rattle.std.specs.List.{AllByRecursion}
use Rattle.std.specs.Prelude.{IsPermutation}
use Rattle.std.specs.Ordering.{nat_cmp, is_le}
use Rattle.std.specs.Cmp.Lexicographic.{slice_cmp}
use Rattle.std.proofs.lemmas.List.Sorted.{IsPermutation-cons, IsPermutation-insert, IsPermutation-refl, IsPermutation-trans}
use Rattle.bst_meaning.specs.Config.{EntryState}
use Rattle.bst_meaning.specs.Sorting.{inserted, sort_key, sorted}

-- the first two of a list are exchanged
exchanged : (a b : EntryState) (xs : List EntryState) → IsPermutation (a ∷ b ∷ xs) (b ∷ a ∷ xs)
exchanged a b xs = IsPermutation-insert (b ∷ xs) 1 a

inserted_permutes : (e : EntryState) (entries : List EntryState) → IsPermutation (e ∷ entries) (inserted e entries)
inserted_permutes e [] = IsPermutation-refl (e ∷ [])
inserted_permutes e (first ∷ entries) =
    by (is_le (slice_cmp nat_cmp (sort_key e) (sort_key first))) (inserted_permutes e entries)
  where
    by : (t : Bool) → IsPermutation (e ∷ entries) (inserted e entries)
        → IsPermutation (e ∷ first ∷ entries) (cond t (e ∷ first ∷ entries) (first ∷ inserted e entries))
    by true h = IsPermutation-refl (e ∷ first ∷ entries)
    by false h =
        IsPermutation-trans (e ∷ first ∷ entries) (first ∷ e ∷ entries) (first ∷ inserted e entries) (exchanged e first entries)
        (IsPermutation-cons first (e ∷ entries) (inserted e entries) h)

pub sorted_permutes : (entries : List EntryState) → IsPermutation entries (sorted entries)
sorted_permutes [] = IsPermutation-refl []
sorted_permutes (e ∷ entries) =
    IsPermutation-trans (e ∷ entries) (e ∷ sorted entries) (inserted e (sorted entries))
    (IsPermutation-cons e entries (sorted entries) (sorted_permutes entries)) (inserted_permutes e (sorted entries))

-- what each entry has, each sorted one has
inserted_all : (P : EntryState → Type 0) (e : EntryState) (entries : List EntryState) → P e → AllByRecursion P entries
    → AllByRecursion P (inserted e entries)
inserted_all P e [] h all = (h, tt)
inserted_all P e (first ∷ entries) h all =
    by (is_le (slice_cmp nat_cmp (sort_key e) (sort_key first))) (inserted_all P e entries h all.1)
  where
    by : (t : Bool) → AllByRecursion P (inserted e entries) → AllByRecursion P (cond t (e ∷ first ∷ entries) (first ∷ inserted e entries))
    by true more = (h, all)
    by false more = (all.0, more)

pub sorted_all : (P : EntryState → Type 0) (entries : List EntryState) → AllByRecursion P entries → AllByRecursion P (sorted entries)
sorted_all P [] all = tt
sorted_all P (e ∷ entries) all = inserted_all P e (sorted entries) all.0 (sorted_all P entries all.1)
