-- The order of SORT is the stable order by the sort keys' bytes.
use Rattle.std.proofs.Common.{◌≡◌, refl, sym, ap, ◌∙◌, Bool, true, false, cond, not, ℕ, ◌*◌, List, [], ◌∷◌, drop, length, map, slice_get, Option, None, Some, Ordering, Less, Equal, Greater}
use Rattle.std.specs.Ordering.{nat_cmp, is_lt, is_le, ordering_reverse}
use Rattle.std.specs.Cmp.{IsStrictWeakOrder}
use Rattle.std.specs.Cmp.Lexicographic.{slice_cmp}
use Rattle.std.proofs.lemmas.Cmp.{nat_list_cmp_total}
use Rattle.std.proofs.lemmas.List.Sorted.{ranks_by}
use Rattle.std.specs.List.Sorted.{IsStableBy, IsSortedBy}
use Rattle.std.specs.Option.{option_and_then, option_map}
use Rattle.name_table.specs.declared.names.NameId.{NameId}
use Rattle.bst_meaning.specs.Config as config
use Rattle.bst_meaning.specs.EntryLists.{Entry}
use Rattle.bst_meaning.specs.Machine.{value_at}
use Rattle.bst_meaning.specs.Sorting.{sort_key, inserted, sorted, string_of}
use Rattle.bst_step.specs.declared.held.Held.{Held}
use Rattle.bst_step.specs.EntryStates.{state_at, state_in, states_at}
use Rattle.bst_step.specs.Held.{value_in}
use Rattle.bst_step.specs.Marks.{Marked, inserted_marks, marked_in, sorted_marks}
use Rattle.bst_step.specs.Places.{place_of}
use Rattle.bst_step.specs.Variables.{named}
use Rattle.bst_step.proofs.StableOrder.{insert_by, sort_of, sorted_stable}
use Rattle.bst_step.proofs.ValueSteps.{value_held}
use Rattle.bst_step.proofs.VariableSteps.{string_found, string_missing, value_named}

not_less : (r : Ordering) → is_le (ordering_reverse r) ≡ not (is_lt r)
not_less Less = refl
not_less Equal = refl
not_less Greater = refl

module _ {R : Type 0} (seen : R → config.EntryState) (marked : R → List Marked) where
  -- the key of one is less than the key of the other
  abbrev pub key_lt : R → R → Bool
  key_lt a b = is_lt (slice_cmp nat_cmp (sort_key (seen a)) (sort_key (seen b)))

  pub key_order : IsStrictWeakOrder key_lt
  key_order = ranks_by nat_list_cmp_total (λ (r : R). sort_key (seen r))

  not_above : (x y : R) → is_le (slice_cmp nat_cmp (sort_key (seen x)) (sort_key (seen y))) ≡ not (key_lt y x)
  not_above x y =
      ap is_le (nat_list_cmp_total.antisymm (sort_key (seen x)) (sort_key (seen y)))
      ∙ not_less (slice_cmp nat_cmp (sort_key (seen y)) (sort_key (seen x)))

  chosen : (b : Bool) (x y : R) (ys : List R) (later : List config.EntryState)
      → map seen (insert_by key_lt key_order x ys) ≡ later
      → map seen (cond b (y ∷ insert_by key_lt key_order x ys) (x ∷ y ∷ ys)) ≡ cond (not b) (seen x ∷ seen y ∷ map seen ys) (seen y ∷ later)
  chosen true x y ys later e = ap (λ l. seen y ∷ l) e
  chosen false x y ys later e = refl

  inserted_same : (x : R) (ys : List R) → map seen (insert_by key_lt key_order x ys) ≡ inserted (seen x) (map seen ys)
  inserted_same x [] = refl
  inserted_same x (y ∷ ys) =
      chosen (key_lt y x) x y ys (inserted (seen x) (map seen ys)) (inserted_same x ys)
      ∙ ap (λ b. cond b (seen x ∷ seen y ∷ map seen ys) (seen y ∷ inserted (seen x) (map seen ys))) (sym (not_above x y))

  sorted_same : (xs : List R) → map seen (sort_of key_lt key_order xs) ≡ sorted (map seen xs)
  sorted_same [] = refl
  sorted_same (x ∷ xs) = inserted_same x (sort_of key_lt key_order xs) ∙ ap (inserted (seen x)) (sorted_same xs)

  pub sorted_entries : (xs ys : List R) → IsSortedBy key_lt ys → IsStableBy key_lt xs ys → map seen ys ≡ sorted (map seen xs)
  sorted_entries xs ys up stays = ap (map seen) (sorted_stable key_lt key_order xs ys up stays) ∙ sorted_same xs

  marks_chosen : (b : Bool) (x y : R) (ys : List R) (later : List (List Marked))
      → map marked (insert_by key_lt key_order x ys) ≡ later
      → map marked (cond b (y ∷ insert_by key_lt key_order x ys) (x ∷ y ∷ ys)) ≡ cond (not b) (marked x ∷ marked y ∷ map marked ys) (marked y ∷ later)
  marks_chosen true x y ys later e = ap (λ l. marked y ∷ l) e
  marks_chosen false x y ys later e = refl

  marks_inserted : (x : R) (ys : List R)
      → map marked (insert_by key_lt key_order x ys) ≡ inserted_marks (seen x) (marked x) (map seen ys) (map marked ys)
  marks_inserted x [] = refl
  marks_inserted x (y ∷ ys) =
      marks_chosen (key_lt y x) x y ys (inserted_marks (seen x) (marked x) (map seen ys) (map marked ys)) (marks_inserted x ys)
      ∙ ap (λ b. cond b (marked x ∷ marked y ∷ map marked ys)
      (marked y ∷ inserted_marks (seen x) (marked x) (map seen ys) (map marked ys))) (sym (not_above x y))

  marks_sorted : (xs : List R) → map marked (sort_of key_lt key_order xs) ≡ sorted_marks (map seen xs) (map marked xs)
  marks_sorted [] = refl
  marks_sorted (x ∷ xs) =
      marks_inserted x (sort_of key_lt key_order xs)
      ∙ ap (λ es. inserted_marks (seen x) (marked x) es (map marked (sort_of key_lt key_order xs))) (sorted_same xs)
      ∙ ap (λ ms. inserted_marks (seen x) (marked x) (sorted (map seen xs)) ms) (marks_sorted xs)

  -- the variables of each entry go with it
  pub sorted_with_marks : (xs ys : List R) → IsSortedBy key_lt ys → IsStableBy key_lt xs ys
      → map marked ys ≡ sorted_marks (map seen xs) (map marked xs)
  sorted_with_marks xs ys up stays = ap (map marked) (sorted_stable key_lt key_order xs ys up stays) ∙ marks_sorted xs

module _ (pool : List ℕ) (names : List NameId) (values : List Held) (entries : List Entry) where
  -- a row of a table as it is seen, and its marks
  abbrev pub row_seen : ℕ → config.EntryState
  row_seen r = state_in pool (state_at names values entries r)

  abbrev pub row_marked : ℕ → List Marked
  row_marked r = marked_in (state_at names values entries r)

  all_seen : (rows : List ℕ) → map (state_in pool) (states_at names values entries rows) ≡ map row_seen rows
  all_seen [] = refl
  all_seen (r ∷ rows) = ap (λ (l : List config.EntryState). row_seen r ∷ l) (all_seen rows)

  all_marked : (rows : List ℕ) → map marked_in (states_at names values entries rows) ≡ map row_marked rows
  all_marked [] = refl
  all_marked (r ∷ rows) = ap (λ (l : List (List Marked)). row_marked r ∷ l) (all_marked rows)

  pub rows_sorted : (xs ys : List ℕ) → IsSortedBy (key_lt row_seen row_marked) ys → IsStableBy (key_lt row_seen row_marked) xs ys
      → map (state_in pool) (states_at names values entries ys) ≡ sorted (map (state_in pool) (states_at names values entries xs))
  rows_sorted xs ys up stays =
      all_seen ys ∙ sorted_entries row_seen row_marked xs ys up stays ∙ ap (λ (l : List config.EntryState). sorted l) (sym (all_seen xs))

  pub rows_with_marks : (xs ys : List ℕ) → IsSortedBy (key_lt row_seen row_marked) ys → IsStableBy (key_lt row_seen row_marked) xs ys
      → map marked_in (states_at names values entries ys) ≡ sorted_marks (map (state_in pool) (states_at names values entries xs)) (map marked_in (states_at names values entries xs))
  rows_with_marks xs ys up stays =
      all_marked ys
      ∙ sorted_with_marks row_seen row_marked xs ys up stays
      ∙ ap (λ (l : List config.EntryState). sorted_marks l (map row_marked xs)) (sym (all_seen xs))
      ∙ ap (λ (l : List (List Marked)). sorted_marks (map (state_in pool) (states_at names values entries xs)) l) (sym (all_marked xs))

  -- the sort key is the string of a variable of the row
  key_held : (r : ℕ) (o : Option ℕ) → o ≡ place_of 38 names
      → option_map (value_in pool) (option_and_then (λ (at : ℕ). slice_get (drop (r * length names) values) at) o) ≡ value_at 38 (row_seen r).variables
  key_held r o is =
      ap (λ (p : Option ℕ). option_map (value_in pool) (option_and_then (λ (at : ℕ). slice_get (drop (r * length names) values) at) p)) is
      ∙ ap (λ (h : Option Held). option_map (value_in pool) h) (sym (value_named 38 names (drop (r * length names) values)))
      ∙ sym (value_held pool 38 (named names (drop (r * length names) values)))

  pub key_found : (r : ℕ) (at : ℕ) (h : Held) → Some at ≡ place_of 38 names → Some h ≡ slice_get (drop (r * length names) values) at
      → string_of (value_in pool h) ≡ sort_key (row_seen r)
  key_found r at h is there =
      string_found 38 (row_seen r).variables (value_in pool h)
      (ap (λ (o : Option Held). option_map (value_in pool) o) there ∙ key_held r (Some at) is)

  pub no_key_there : (r : ℕ) (at : ℕ) → Some at ≡ place_of 38 names → None ≡ slice_get (drop (r * length names) values) at → [] ≡ sort_key (row_seen r)
  no_key_there r at is none =
      string_missing 38 (row_seen r).variables (ap (λ (o : Option Held). option_map (value_in pool) o) none ∙ key_held r (Some at) is)

  pub no_key : (r : ℕ) → None ≡ place_of 38 names → [] ≡ sort_key (row_seen r)
  no_key r is = string_missing 38 (row_seen r).variables (key_held r None is)
