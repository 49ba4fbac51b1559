-- The entries of a list, entry by entry, as a run opens.
use Rattle.std.proofs.Common.{◌≡◌, ℕ, zero, suc, ◌+◌, ◌*◌, ◌<◌, refl, sym, ap, subst, ◌∙◌, List, [], ◌∷◌, ◌++◌, add-one, append_assoc, arith, drop, get_or, length, map}
use Rattle.std.proofs.Math.Nat.{suc-mul, zero-mul}
use Rattle.std.proofs.Math.Seq.{drop-append_seam}
use Rattle.std.proofs.lemmas.List.{append-nil, drop-drop, drop_all, drop_more, length-append, map-append}
use Rattle.std.proofs.lemmas.List.Sorted.{IsPermutation-refl}
use Rattle.std.specs.List.{range_with_len}
use Rattle.std.specs.List.Sorted.{IsPermutation}
use Rattle.bst_meaning.specs.EntryLists.{Entry}
use Rattle.bst_meaning.specs.Config as config
use Rattle.entry_store.specs.PackedEntries.{nothing}
use Rattle.bst_step.specs.declared.held.Held.{Held}
use Rattle.bst_step.specs.declared.variables.Variable.{Variable}
use Rattle.bst_step.specs.EntryStates.{EntriesWithin, EntryState, IsTable, repeated, state_at, state_in, states_at, states_from}
use Rattle.bst_step.specs.Variables.{VariablesWithin, named, names_in, values_in, variable_in}
use Rattle.bst_step.proofs.VariableSteps.{all_named, as_many, more_behind}

-- one variable more
pub variable_opened : (vs more : List Variable) (v : Variable) (later : List config.Variable) → more ≡ vs ++ v ∷ []
    → map (variable_in []) more ++ later ≡ map (variable_in []) vs ++ variable_in [] v ∷ later
variable_opened vs more v later is =
    ap (λ (l : List Variable). map (variable_in []) l ++ later) is
    ∙ ap (λ (l : List config.Variable). l ++ later) (map-append (variable_in []) vs (v ∷ []))
    ∙ append_assoc (map (variable_in []) vs) (variable_in [] v ∷ []) later

-- the entries of a list, each with the same variables, as the definition has them
pub states_opened : (vs : List Variable) (at : ℕ) (entries : List Entry)
    → map (state_in []) (states_from vs at entries) ≡ config.opening_entries (map (variable_in []) vs) at entries
states_opened vs at [] = refl
states_opened vs at (entry ∷ entries) =
    ap (λ (l : List config.EntryState). record { entry = entry; variables = map (variable_in []) vs; position = at } ∷ l)
    (states_opened vs (at + 1) entries)

pub opened_within : (end : ℕ) (vs : List Variable) (at : ℕ) (entries : List Entry) → VariablesWithin end vs → EntriesWithin end (states_from vs at entries)
opened_within end vs at [] within = tt
opened_within end vs at (entry ∷ entries) within = (within, opened_within end vs (at + 1) entries within)

-- one place more
pub places_more : (at n : ℕ) → range_with_len at (suc n) ≡ range_with_len at n ++ (at + n) ∷ []
places_more at zero = let same : at ≡ at + 0 = omega arith in ap (λ (p : ℕ). p ∷ []) same
places_more at (suc n) =
    let same : at + 1 + n ≡ at + suc n = omega arith in
    ap (λ (l : List ℕ). at ∷ l) (places_more (at + 1) n ∙ ap (λ (p : ℕ). range_with_len (at + 1) n ++ p ∷ []) same)

pub place_added : (rows more : List ℕ) (at : ℕ) → more ≡ rows ++ at ∷ [] → rows ≡ range_with_len 0 at → more ≡ range_with_len 0 (at + 1)
place_added rows more at adds is =
    let same : at ≡ 0 + at = omega arith in
    adds
    ∙ ap (λ (l : List ℕ). l ++ at ∷ []) is
    ∙ ap (λ (p : ℕ). range_with_len 0 at ++ p ∷ []) same
    ∙ sym (places_more 0 at)
    ∙ ap (λ (n : ℕ). range_with_len 0 n) (sym (add-one at))

-- the same values once more
repeated_more : {A : Type 0} (n : ℕ) (values : List A) → repeated n values ++ values ≡ repeated (suc n) values
repeated_more zero values = sym (append-nil values)
repeated_more (suc n) values = append_assoc values (repeated n values) values ∙ ap (λ l. values ++ l) (repeated_more n values)

pub values_added : {A : Type 0} (own values more : List A) (n : ℕ) → more ≡ values ++ own → values ≡ repeated n own → more ≡ repeated (n + 1) own
values_added own values more n adds is =
    adds ∙ ap (λ l. l ++ own) is ∙ repeated_more n own ∙ ap (λ (k : ℕ). repeated k own) (sym (add-one n))

length_repeated : (n : ℕ) (values : List Held) → length (repeated n values) ≡ n * length values
length_repeated zero values = sym (zero-mul (length values))
length_repeated (suc n) values =
    omega (arith, length-append values (repeated n values), length_repeated n values, suc-mul n (length values))

-- at each place the entry has the variables that all have
own_values : (vs : List Variable) (n place : ℕ) → place < n
    → named (names_in vs) (drop (place * length (names_in vs)) (repeated n (values_in vs))) ≡ vs
own_values vs zero place within = absurd (omega (arith, within))
own_values vs (suc n) zero within =
    ap (λ (k : ℕ). named (names_in vs) (drop k (values_in vs ++ repeated n (values_in vs)))) (zero-mul (length (names_in vs)))
    ∙ more_behind (names_in vs) (values_in vs) (repeated n (values_in vs)) (omega (arith, as_many vs))
    ∙ all_named vs
own_values vs (suc n) (suc place) within =
    let count : ℕ = length (names_in vs) in
    let sum : suc place * count ≡ count + place * count = omega (arith, suc-mul place count) in
    ap (λ (l : List Held). named (names_in vs) l)
    (ap (λ (k : ℕ). drop k (values_in vs ++ repeated n (values_in vs))) sum
    ∙ sym (drop-drop (place * count) count (values_in vs ++ repeated n (values_in vs)))
    ∙ ap (λ (k : ℕ). drop (place * count) (drop k (values_in vs ++ repeated n (values_in vs)))) (sym (as_many vs))
    ∙ ap (λ (l : List Held). drop (place * count) l) (drop-append_seam (values_in vs) (repeated n (values_in vs))))
    ∙ own_values vs n place (omega (arith, within))

-- the entries from a place on
states_open : (vs : List Variable) (entries : List Entry) (at n : ℕ) → at + n ≡ length entries
    → states_at (names_in vs) (repeated (length entries) (values_in vs)) entries (range_with_len at n) ≡ states_from vs at (drop at entries)
states_open vs entries at zero all = ap (λ (l : List Entry). states_from vs at l) (sym (drop_all at entries (omega (arith, all))))
states_open vs entries at (suc n) all =
    let within : at < length entries = omega (arith, all) in
    let values : List Held = repeated (length entries) (values_in vs) in
    ap (λ (l : List EntryState). state_at (names_in vs) values entries at ∷ l) (states_open vs entries (at + 1) n (omega (arith, all)))
    ∙ ap (λ (ws : List Variable).
    let e : EntryState = record { entry = get_or entries at nothing; variables = ws; position = at } in
    e ∷ states_from vs (at + 1) (drop (at + 1) entries)) (own_values vs (length entries) at within)
    ∙ ap (λ (l : List Entry). states_from vs at l) (sym (drop_more entries at nothing within))

-- places and values that were made for a list are a table, whose entries are those of the list
module _ (vs : List Variable) (entries : List Entry) (own values : List Held) (rows : List ℕ) (many : ℕ) (count : many ≡ length entries)
    (placed : rows ≡ range_with_len 0 many) (lent : own ≡ values_in vs) (made : values ≡ repeated many own) where
  all_placed : rows ≡ range_with_len 0 (length entries)
  all_placed = placed ∙ ap (λ (n : ℕ). range_with_len 0 n) count

  all_made : values ≡ repeated (length entries) (values_in vs)
  all_made = made ∙ ap (λ (n : ℕ). repeated n own) count ∙ ap (λ (l : List Held). repeated (length entries) l) lent

  pub table_opened : IsTable (length (names_in vs)) values entries rows
  table_opened = record {
    permuted =
        subst (λ (l : List ℕ). IsPermutation (range_with_len 0 (length entries)) l) (sym all_placed) (IsPermutation-refl (range_with_len 0 (length entries)));
    many =
        ap (λ (l : List Held). length l) all_made
        ∙ length_repeated (length entries) (values_in vs)
        ∙ ap (λ (n : ℕ). length entries * n) (as_many vs);
  }

  pub rows_opened : states_at (names_in vs) values entries rows ≡ states_from vs 0 entries
  rows_opened =
      let all : 0 + length entries ≡ length entries = omega arith in
      ap (λ (l : List Held). states_at (names_in vs) l entries rows) all_made
      ∙ ap (λ (l : List ℕ). states_at (names_in vs) (repeated (length entries) (values_in vs)) entries l) all_placed
      ∙ states_open vs entries 0 (length entries) all
