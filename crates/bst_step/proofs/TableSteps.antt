-- The entries of a table share one list of values, and what one of them is given leaves the others.
use Rattle.std.proofs.Common.{◌≡◌, ℕ, zero, suc, ◌+◌, ◌-◌, ◌*◌, ◌<◌, ◌≤◌, nat_eq, false, refl, inl, inr, ◌⊎◌, sym, ap, subst, ◌∙◌, List, [], ◌∷◌, drop, get_or, length, map, slice_get, Option, None, Some, arith}
use Rattle.std.proofs.lemmas.Bool.Decides.{nat_tests}
use Rattle.std.proofs.Math.ListN.{set}
use Rattle.std.proofs.Math.Nat.{mul-le-mul_right, suc-mul}
use Rattle.std.proofs.lemmas.List.{drop-set-add, drop-set-lt, set_past}
use Rattle.std.proofs.lemmas.List.Elements.{All-cons, All-nil, All-weaker, recursion_from_All}
use Rattle.std.proofs.lemmas.List.Sorted.{All-permutation, IsPermutation-trans}
use Rattle.std.proofs.lemmas.Map.Keys.{IsDistinct-IsPermutation}
use Rattle.std.specs.List.{All, AllByRecursion, IsDistinct, range_with_len}
use Rattle.std.specs.List.Sorted.{IsPermutation}
use Rattle.std.specs.Global.{Vec}
use Rattle.std.specs.Option.{option_and_then, option_map, option_map_or, IfSome}
use Rattle.std.proofs.lemmas.Option.{slice_get-get_or, slice_get-map, slice_get_past}
use Rattle.name_table.specs.declared.names.NameId.{NameId}
use Rattle.bst_meaning.specs.EntryLists.{Entry}
use Rattle.bst_meaning.specs.FieldValues.{FieldValue}
use Rattle.entry_store.specs.PackedEntries.{nothing}
use Rattle.bst_step.specs.declared.held.Held.{Held}
use Rattle.bst_step.specs.declared.variables.Variable.{Variable}
use Rattle.bst_step.specs.EntryStates.{EntryState, IsTable, state_at, states_at, with_held_in}
use Rattle.bst_step.specs.Places.{FieldsStandAt, StandAt, place_of}
use Rattle.bst_step.specs.Variables.{held_at, named, with_held}
use Rattle.bst_step.proofs.VariableSteps.{place_within, set_behind, set_missing, set_named, value_named}

-- a value that is read so far behind a place
get_drop : (values : List Held) (first at : ℕ) → slice_get (drop first values) at ≡ slice_get values (first + at)
get_drop values zero at = let same : at ≡ 0 + at = omega arith in ap (λ (n : ℕ). slice_get values n) same
get_drop [] (suc first) at = refl
get_drop (v ∷ values) (suc first) at =
    let same : suc (first + at) ≡ suc first + at = omega arith in
    get_drop values first at ∙ ap (λ (n : ℕ). slice_get (v ∷ values) n) same

pub read_behind : (values : List Held) (first at index : ℕ) → index ≡ first + at → slice_get values index ≡ slice_get (drop first values) at
read_behind values first at index is = ap (λ (n : ℕ). slice_get values n) is ∙ sym (get_drop values first at)

pub none_behind : (values : List Held) (first at : ℕ) → length values ≤ first + at → None ≡ slice_get (drop first values) at
none_behind values first at past = sym (get_drop values first at ∙ slice_get_past values (first + at) past)

-- the values of an entry at a place end where those of the next begin, or before
pub times_next : (count a b : ℕ) → a < b → a * count + count ≤ b * count
times_next count a b before = omega (arith, suc-mul a count, mul-le-mul_right count (let next : suc a ≤ b = omega (arith, before) in next))

-- no place comes twice
eq_flips : (a b : ℕ) → nat_eq a b ≡ nat_eq b a
eq_flips a b = grind (arith, nat_tests)

differs : (a b : ℕ) → a < b → nat_eq a b ≡ false
differs a b before = grind (arith, nat_tests)

pub later_places : (at n : ℕ) → All (λ (p : ℕ). at ≤ p) (range_with_len at n)
later_places at zero = All-nil (λ (p : ℕ). at ≤ p)
later_places at (suc n) =
    All-cons (λ (p : ℕ). at ≤ p) at (range_with_len (at + 1) n) (omega arith)
    (All-weaker (λ (p : ℕ). at + 1 ≤ p) (λ (p : ℕ). at ≤ p) (λ p h. omega (arith, h)) (range_with_len (at + 1) n) (later_places (at + 1) n))

pub places_below : (at n end : ℕ) → at + n ≡ end → All (λ (p : ℕ). p < end) (range_with_len at n)
places_below at zero end is = All-nil (λ (p : ℕ). p < end)
places_below at (suc n) end is =
    All-cons (λ (p : ℕ). p < end) at (range_with_len (at + 1) n) (omega (arith, is)) (places_below (at + 1) n end (omega (arith, is)))

places_apart : (at n : ℕ) → IsDistinct nat_eq (range_with_len at n)
unfolding IsDistinct
places_apart at zero = tt
places_apart at (suc n) = (
  recursion_from_All (λ (p : ℕ). nat_eq at p ≡ false) (range_with_len (at + 1) n)
      (All-weaker (λ (p : ℕ). at + 1 ≤ p) (λ (p : ℕ). nat_eq at p ≡ false) (λ p h. differs at p (omega (arith, h))) (range_with_len (at + 1) n)
      (later_places (at + 1) n)),
  places_apart (at + 1) n,
)

rows_apart : (count : ℕ) (values : List Held) (entries : List Entry) (rows : List ℕ) → IsTable count values entries rows → IsDistinct nat_eq rows
rows_apart count values entries rows table =
    IsDistinct-IsPermutation nat_eq eq_flips (range_with_len 0 (length entries)) rows table.permuted (places_apart 0 (length entries))

pub rows_within : (count : ℕ) (values : List Held) (entries : List Entry) (rows : List ℕ) → IsTable count values entries rows
    → All (λ (p : ℕ). p < length entries) rows
rows_within count values entries rows table =
    All-permutation (λ (p : ℕ). p < length entries) (range_with_len 0 (length entries)) rows table.permuted
    (places_below 0 (length entries) (length entries) (omega arith))

-- an entry at another place than the one that is given a value keeps its variables
kept_apart : (names : List NameId) (values : List Held) (r s : ℕ) (at : ℕ) (h : Held) → nat_eq r s ≡ false → at < length names
    → named names (drop (s * length names) (set values (r * length names + at) h)) ≡ named names (drop (s * length names) values)
kept_apart names values r s at h other within = elim (sides r s other) [
  | inl before ↦
      ap (λ (l : List Held). named names l)
      (drop-set-lt (s * length names) values (r * length names + at) h (omega (arith, times_next (length names) r s before, within)))
  | inr after ↦
      let behind : s * length names + length names ≤ r * length names = times_next (length names) s r after in
      let far : ℕ = r * length names + at - s * length names in
      let sum : r * length names + at ≡ s * length names + far = omega (arith, behind) in
      ap (λ (n : ℕ). named names (drop (s * length names) (set values n h))) sum
      ∙ ap (λ (l : List Held). named names l) (drop-set-add (s * length names) values far h)
      ∙ set_behind names (drop (s * length names) values) far h (omega (arith, behind))
]
  where
    sides : (a b : ℕ) → nat_eq a b ≡ false → (a < b) ⊎ (b < a)
    sides a b e = grind (arith, nat_tests)

others_kept : (names : List NameId) (values : List Held) (entries : List Entry) (rows : List ℕ) (r at : ℕ) (h : Held)
    → AllByRecursion (λ (s : ℕ). nat_eq r s ≡ false) rows → at < length names
    → states_at names (set values (r * length names + at) h) entries rows ≡ states_at names values entries rows
others_kept names values entries [] r at h others within = refl
others_kept names values entries (s ∷ rows) r at h others within =
    ap (λ (vs : List Variable).
    let e : EntryState = record { entry = get_or entries s nothing; variables = vs; position = s } in
    e ∷ states_at names (set values (r * length names + at) h) entries rows) (kept_apart names values r s at h others.0 within)
    ∙ ap (λ (l : List EntryState). state_at names values entries s ∷ l) (others_kept names values entries rows r at h others.1 within)

-- an entry of a list has what all have
looked : (P : ℕ → Type 0) (rows : List ℕ) (i r : ℕ) → AllByRecursion P rows → slice_get rows i ≡ Some r → P r
looked P [] i r all here = absurd (cc)
looked P (s ∷ rows) zero r all here = let same : s ≡ r = cc in subst P same all.0
looked P (s ∷ rows) (suc i) r all here = looked P rows i r all.1 here

-- a variable of a row is given a value
given_to : (names : List NameId) (values : List Held) (entries : List Entry) (r : ℕ) (new : Variable) (at : ℕ) → Some at ≡ place_of new.name.0 names
    → state_at names (set values (r * length names + at) new.value) entries r ≡ record (state_at names values entries r) { variables = with_held new (named names (drop (r * length names) values)) }
given_to names values entries r new at is =
    ap (λ (vs : List Variable). let e : EntryState = record { entry = get_or entries r nothing; variables = vs; position = r } in e)
    (ap (λ (l : List Held). named names l) (drop-set-add (r * length names) values at new.value) ∙ set_named new names (drop (r * length names) values) at is)

row_given : (names : List NameId) (values : List Held) (entries : List Entry) (rows : List ℕ) (i r : ℕ) (new : Variable) (at : ℕ) → IsDistinct nat_eq rows
    → slice_get rows i ≡ Some r → Some at ≡ place_of new.name.0 names
    → states_at names (set values (r * length names + at) new.value) entries rows
    ≡ set (states_at names values entries rows) i (record (state_at names values entries r) { variables = with_held new (named names (drop (r * length names) values)) })
unfolding IsDistinct
row_given names values entries [] i r new at distinct here is = absurd (cc)
row_given names values entries (s ∷ rows) zero r new at distinct here is =
    let same : s ≡ r = cc in
    let within : at < length names = place_within new.name.0 names at is in
    ap (λ (k : ℕ). state_at names (set values (r * length names + at) new.value) entries k ∷ states_at names (set values (r * length names + at) new.value) entries rows) same
    ∙ ap (λ (e : EntryState). e ∷ states_at names (set values (r * length names + at) new.value) entries rows) (given_to names values entries r new at is)
    ∙ ap (λ (l : List EntryState). let e : EntryState = record (state_at names values entries r) { variables = with_held new (named names (drop (r * length names) values)) } in e ∷ l)
    (others_kept names values entries rows r at new.value (subst (λ (k : ℕ). AllByRecursion (λ (t : ℕ). nat_eq k t ≡ false) rows) same distinct.0) within)
row_given names values entries (s ∷ rows) (suc i) r new at distinct here is =
    let within : at < length names = place_within new.name.0 names at is in
    let other : nat_eq r s ≡ false =
    eq_flips r s ∙ looked (λ (t : ℕ). nat_eq s t ≡ false) rows i r distinct.0 here in
    ap (λ (vs : List Variable).
    let e : EntryState = record { entry = get_or entries s nothing; variables = vs; position = s } in
    e ∷ states_at names (set values (r * length names + at) new.value) entries rows) (kept_apart names values r s at new.value other within)
    ∙ ap (λ (l : List EntryState). state_at names values entries s ∷ l) (row_given names values entries rows i r new at distinct.1 here is)

-- what stands at a place among the entries
state_there : (names : List NameId) (values : List Held) (entries : List Entry) (rows : List ℕ) (i : ℕ) (o : Option ℕ) → slice_get rows i ≡ o
    → slice_get (states_at names values entries rows) i ≡ option_map (state_at names values entries) o
state_there names values entries rows i o there =
    slice_get-map (state_at names values entries) rows i ∙ ap (λ (p : Option ℕ). option_map (state_at names values entries) p) there

pub entry_given : (names : List NameId) (values : List Held) (entries : List Entry) (rows : List ℕ) (i r : ℕ) (new : Variable) (at index : ℕ)
    → IsTable (length names) values entries rows → slice_get rows i ≡ Some r → Some at ≡ place_of new.name.0 names → index ≡ r * length names + at
    → states_at names (set values index new.value) entries rows ≡ with_held_in new i (states_at names values entries rows)
entry_given names values entries rows i r new at index table here is sum =
    ap (λ (n : ℕ). states_at names (set values n new.value) entries rows) sum
    ∙ row_given names values entries rows i r new at (rows_apart (length names) values entries rows table) here is
    ∙ sym (ap (λ (o : Option EntryState).
    option_map_or (λ (e : EntryState). set (states_at names values entries rows) i (record e { variables = with_held new e.variables })) o (states_at names values entries rows))
    (state_there names values entries rows i (Some r) here))

pub past_given : (names : List NameId) (values : List Held) (entries : List Entry) (rows : List ℕ) (i r : ℕ) (new : Variable) (at : ℕ)
    → IsTable (length names) values entries rows → slice_get rows i ≡ Some r → Some at ≡ place_of new.name.0 names → length values ≤ r * length names + at
    → states_at names values entries rows ≡ with_held_in new i (states_at names values entries rows)
past_given names values entries rows i r new at table here is past =
    ap (λ (l : List Held). states_at names l entries rows) (sym (set_past values (r * length names + at) new.value past))
    ∙ entry_given names values entries rows i r new at (r * length names + at) table here is refl

-- no entry stands there, or none of its variables has the name
pub no_entry_given : (names : List NameId) (values : List Held) (entries : List Entry) (rows : List ℕ) (i : ℕ) (new : Variable) → slice_get rows i ≡ None
    → states_at names values entries rows ≡ with_held_in new i (states_at names values entries rows)
no_entry_given names values entries rows i new none =
    sym (ap (λ (o : Option EntryState).
    option_map_or (λ (e : EntryState). set (states_at names values entries rows) i (record e { variables = with_held new e.variables })) o (states_at names values entries rows))
    (state_there names values entries rows i None none))

set_itself : {A : Type 0} (xs : List A) (i : ℕ) (x : A) → slice_get xs i ≡ Some x → xs ≡ set xs i x
set_itself [] i x here = refl
set_itself (y ∷ xs) zero x here = let same : y ≡ x = cc in ap (λ z. z ∷ xs) same
set_itself (y ∷ xs) (suc i) x here = ap (λ l. y ∷ l) (set_itself xs i x here)

pub none_given_there : (names : List NameId) (values : List Held) (entries : List Entry) (rows : List ℕ) (i : ℕ) (new : Variable) → None ≡ place_of new.name.0 names
    → states_at names values entries rows ≡ with_held_in new i (states_at names values entries rows)
none_given_there names values entries rows i new none = by (slice_get rows i) refl
  where
    states : List EntryState
    states = states_at names values entries rows

    by : (o : Option ℕ) → slice_get rows i ≡ o → states ≡ with_held_in new i states
    by None there = no_entry_given names values entries rows i new there
    by (Some r) there =
        let here : slice_get states i ≡ Some (state_at names values entries r) = state_there names values entries rows i (Some r) there in
        set_itself states i (state_at names values entries r) here
        ∙ ap (λ (vs : List Variable). set states i (record { entry = get_or entries r nothing; variables = vs; position = r })) (set_missing new names (drop (r * length names) values) none)
        ∙ sym (ap (λ (o : Option EntryState).
        option_map_or (λ (e : EntryState). set states i (record e { variables = with_held new e.variables })) o states) here)

-- the entry of a row is seen, where it was read
entry_there : {A : Type 0} (count : ℕ) (names : List NameId) (values : List Held) (entries : List Entry) (rows : List ℕ) (i : ℕ) (f : Entry → A)
    → IsTable count values entries rows
    → option_map f (option_and_then (λ (p : ℕ). slice_get entries p) (slice_get rows i))
    ≡ option_map (λ (e : EntryState). f e.entry) (slice_get (states_at names values entries rows) i)
entry_there {A} count names values entries rows i f table = by (slice_get rows i) refl
  where
    by : (o : Option ℕ) → slice_get rows i ≡ o
        → option_map f (option_and_then (λ (p : ℕ). slice_get entries p) o)
        ≡ option_map (λ (e : EntryState). f e.entry) (slice_get (states_at names values entries rows) i)
    by None there = sym (ap (λ (p : Option EntryState). option_map (λ (e : EntryState). f e.entry) p) (state_there names values entries rows i None there))
    by (Some r) there =
        let within : r < length entries =
        looked (λ (p : ℕ). p < length entries) rows i r
        (recursion_from_All (λ (p : ℕ). p < length entries) rows (rows_within count values entries rows table)) there in
        ap (λ (o : Option Entry). option_map f o) (slice_get-get_or entries r nothing within)
        ∙ sym (ap (λ (p : Option EntryState). option_map (λ (e : EntryState). f e.entry) p) (state_there names values entries rows i (Some r) there))

pub entry_seen : {A : Type 0} (count : ℕ) (names : List NameId) (values : List Held) (entries : List Entry) (rows lent : List ℕ) (seen : List EntryState)
    (i : ℕ) (o : Option Entry) (f : Entry → A) → IsTable count values entries rows → states_at names values entries rows ≡ seen → lent ≡ rows
    → o ≡ option_and_then (λ (p : ℕ). slice_get entries p) (slice_get lent i)
    → option_map f o ≡ option_map (λ (e : EntryState). f e.entry) (slice_get seen i)
entry_seen {A} count names values entries rows lent seen i o f table is all here =
    ap (λ (p : Option Entry). option_map f p) (here ∙ ap (λ (l : List ℕ). option_and_then (λ (p : ℕ). slice_get entries p) (slice_get l i)) all)
    ∙ entry_there count names values entries rows i f table
    ∙ ap (λ (l : List EntryState). option_map (λ (e : EntryState). f e.entry) (slice_get l i)) is

-- its fields stand where those of all entries do
entry_stands : (entries : List Entry) (places : List ℕ) (o : Option ℕ) (e : Entry) → Some e ≡ option_and_then (λ (p : ℕ). slice_get entries p) o
    → FieldsStandAt places entries → StandAt places (map (λ (f : FieldValue). f.name) e.fields)
entry_stands entries places None e is all = absurd (cc)
entry_stands entries places (Some p) e is all = all p e (sym is)

pub fields_stand : (entries : List Entry) (places : Option (Vec ℕ)) (o : Option ℕ) (e : Entry) → Some e ≡ option_and_then (λ (p : ℕ). slice_get entries p) o
    → IfSome places (λ (l : Vec ℕ). FieldsStandAt l.items entries)
    → IfSome places (λ (l : Vec ℕ). StandAt l.items (map (λ (f : FieldValue). f.name) e.fields))
fields_stand entries None o e is all = tt
fields_stand entries (Some places) o e is all = entry_stands entries places.items o e is all

-- and so is its place
pub place_there : (names : List NameId) (values : List Held) (entries : List Entry) (rows : List ℕ) (seen : List EntryState) (i : ℕ)
    → states_at names values entries rows ≡ seen → slice_get rows i ≡ option_map (λ (e : EntryState). e.position) (slice_get seen i)
place_there names values entries rows seen i is =
    by (slice_get rows i)
    ∙ ap (λ (p : Option EntryState). option_map (λ (e : EntryState). e.position) p) (sym (slice_get-map (state_at names values entries) rows i))
    ∙ ap (λ (l : List EntryState). option_map (λ (e : EntryState). e.position) (slice_get l i)) is
  where
    by : (o : Option ℕ) → o ≡ option_map (λ (e : EntryState). e.position) (option_map (state_at names values entries) o)
    by None = refl
    by (Some r) = refl

-- what a variable of an entry holds
pub value_there : (names : List NameId) (values : List Held) (entries : List Entry) (rows : List ℕ) (i id at r : ℕ) → slice_get rows i ≡ Some r
    → Some at ≡ place_of id names
    → slice_get (drop (r * length names) values) at ≡ option_and_then (λ (e : EntryState). held_at id e.variables) (slice_get (states_at names values entries rows) i)
value_there names values entries rows i id at r here is =
    ap (λ (o : Option ℕ). option_and_then (λ (k : ℕ). slice_get (drop (r * length names) values) k) o) is
    ∙ sym (value_named id names (drop (r * length names) values))
    ∙ sym (ap (λ (o : Option EntryState). option_and_then (λ (e : EntryState). held_at id e.variables) o) (state_there names values entries rows i (Some r) here))

pub no_value_there : (names : List NameId) (values : List Held) (entries : List Entry) (rows : List ℕ) (i id : ℕ) → None ≡ place_of id names
    → None ≡ option_and_then (λ (e : EntryState). held_at id e.variables) (slice_get (states_at names values entries rows) i)
no_value_there names values entries rows i id none = by (slice_get rows i) refl
  where
    by : (o : Option ℕ) → slice_get rows i ≡ o
        → None ≡ option_and_then (λ (e : EntryState). held_at id e.variables) (slice_get (states_at names values entries rows) i)
    by None there = sym (ap (λ (o : Option EntryState). option_and_then (λ (e : EntryState). held_at id e.variables) o) (state_there names values entries rows i None there))
    by (Some r) there =
        ap (λ (o : Option ℕ). option_and_then (λ (k : ℕ). slice_get (drop (r * length names) values) k) o) none
        ∙ sym (value_named id names (drop (r * length names) values))
        ∙ sym (ap (λ (o : Option EntryState). option_and_then (λ (e : EntryState). held_at id e.variables) o) (state_there names values entries rows i (Some r) there))

pub no_entry_there : (names : List NameId) (values : List Held) (entries : List Entry) (rows : List ℕ) (i id : ℕ) → slice_get rows i ≡ None
    → None ≡ option_and_then (λ (e : EntryState). held_at id e.variables) (slice_get (states_at names values entries rows) i)
no_entry_there names values entries rows i id none =
    sym (ap (λ (o : Option EntryState). option_and_then (λ (e : EntryState). held_at id e.variables) o) (state_there names values entries rows i None none))

-- the table stands where other values take the place of all
pub table_stays : (count : ℕ) (values later : List Held) (entries : List Entry) (rows : List ℕ) → length later ≡ length values
    → IsTable count values entries rows → IsTable count later entries rows
table_stays count values later entries rows many table = record { permuted = table.permuted; many = many ∙ table.many }

-- and where the rows have another order
pub table_permuted : (count : ℕ) (values : List Held) (entries : List Entry) (rows more : List ℕ) → IsPermutation rows more
    → IsTable count values entries rows → IsTable count values entries more
table_permuted count values entries rows more moved table = record {
  permuted = IsPermutation-trans (range_with_len 0 (length entries)) rows more table.permuted moved;
  many = table.many;
}
