-- The key of the entry with a position is that of the entry at the position of the list.
use Rattle.std.proofs.Common.{◌≡◌, ℕ, zero, suc, ◌+◌, Bool, true, false, cond, nat_eq, List, [], ◌∷◌, map, Option, Some, None, refl, sym, ap, ◌∙◌, subst, arith}
use Rattle.std.specs.List.{All}
use Rattle.std.specs.Option.{option_map_or}
use Rattle.std.specs.Prelude.{slice_get}
use Rattle.std.proofs.lemmas.Bool.{eqb-true, eq-eqb}
use Rattle.std.proofs.lemmas.List.Elements.{All-cons, All-head, All-nil, All-tail}
use Rattle.std.proofs.lemmas.List.Sorted.{All-permutation, IsPermutation-sym}
use Rattle.name_table.specs.declared.style.Style.{Style}
use Rattle.bst_meaning.specs.EntryLists.{Entry, EntryList}
use Rattle.bst_meaning.specs.Config.{Config, EntryState, Variable, opening, opening_entries, opening_entry_variable, opening_variables}
use Rattle.bst_meaning.specs.Keeping.{placed}
use Rattle.bst_step.specs.Machine.{HasEntriesOf, key_at, key_of}

-- an entry with a position stands there in a list
abbrev pub StandsAt : List Entry → Entry × ℕ → Type 0
StandsAt whole p = slice_get whole p.1 ≡ Some p.0

-- an entry has another position
abbrev pub IsElsewhere : ℕ → Entry × ℕ → Type 0
IsElsewhere position p = nat_eq p.1 position ≡ false

-- the entries of an opening stand at their positions
opened_stand : (whole : List Entry) (variables : List Variable) (at : ℕ) (entries : List Entry)
    → ((k : ℕ) → slice_get whole (at + k) ≡ slice_get entries k) → All (StandsAt whole) (map placed (opening_entries variables at entries))
opened_stand whole variables at [] same = All-nil (StandsAt whole)
opened_stand whole variables at (entry ∷ entries) same =
    All-cons (StandsAt whole) (entry, at) (map placed (opening_entries variables (at + 1) entries))
    (ap (λ (n : ℕ). slice_get whole n) (omega arith) ∙ same 0)
    (opened_stand whole variables (at + 1) entries (λ k. ap (λ (n : ℕ). slice_get whole n) (omega arith) ∙ same (suc k)))

-- where no entry of an opening has a position, the list has none there
none_there : (variables : List Variable) (at : ℕ) (entries : List Entry) (k : ℕ)
    → All (IsElsewhere (at + k)) (map placed (opening_entries variables at entries)) → slice_get entries k ≡ None
none_there variables at [] k all = refl
none_there variables at (entry ∷ entries) zero all =
    let other : nat_eq at (at + 0) ≡ false =
    All-head (IsElsewhere (at + 0)) (entry, at) (map placed (opening_entries variables (at + 1) entries)) all in
    let same : nat_eq at (at + 0) ≡ true = eq-eqb at (at + 0) (omega arith) in
    not_both (nat_eq at (at + 0)) same other
  where
    not_both : {X : Type 0} (t : Bool) → t ≡ true → t ≡ false → X
    not_both true e f = absurd (cc)
    not_both false e f = absurd (cc)
none_there variables at (entry ∷ entries) (suc k) all =
    none_there variables (at + 1) entries k
    (subst (λ (n : ℕ). All (IsElsewhere n) (map placed (opening_entries variables (at + 1) entries))) (omega arith)
    (All-tail (IsElsewhere (at + suc k)) (entry, at) (map placed (opening_entries variables (at + 1) entries)) all))

-- a key that is found is that at its position, and where none is found no entry has the position
pub found_or_none : (whole : List Entry) (position : ℕ) (entries : List EntryState) → All (StandsAt whole) (map placed entries)
    → (All (IsElsewhere position) (map placed entries) → slice_get whole position ≡ None)
    → key_at position entries ≡ option_map_or (λ e. e.key) (slice_get whole position) []
found_or_none whole position [] all none =
    sym (ap (λ (o : Option Entry). option_map_or (λ e. e.key) o []) (none (All-nil (IsElsewhere position))))
found_or_none whole position (e ∷ entries) all none =
    elim (nat_eq e.position position) as (λ (t : Bool). nat_eq e.position position ≡ t
    → cond t e.entry.key (key_at position entries) ≡ option_map_or (λ e. e.key) (slice_get whole position) []) [
      | true ↦ λ is.
          let same : position ≡ e.position = sym (eqb-true e.position position is) in
          sym (ap (λ (o : Option Entry). option_map_or (λ e. e.key) o [])
          (ap (λ (n : ℕ). slice_get whole n) same ∙ All-head (StandsAt whole) (placed e) (map placed entries) all))
      | false ↦ λ other.
          found_or_none whole position entries (All-tail (StandsAt whole) (placed e) (map placed entries) all)
          (λ more. none (All-cons (IsElsewhere position) (placed e) (map placed entries) other more))
    ] refl

pub key_stays : (style : Style) (list : EntryList) (c : Config) (position : ℕ) → HasEntriesOf (opening style list) c
    → key_at position c.entries ≡ key_of position list
key_stays style list c position same =
    let variables : List Variable = opening_variables opening_entry_variable 0 style.names in
    let opened : List (Entry × ℕ) = map placed (opening_entries variables 0 list.entries) in
    found_or_none list.entries position c.entries
    (All-permutation (StandsAt list.entries) opened (map placed c.entries) same
    (opened_stand list.entries variables 0 list.entries (λ k. ap (λ (n : ℕ). slice_get list.entries n) (omega arith))))
    (λ elsewhere. none_there variables 0 list.entries position
    (subst (λ (n : ℕ). All (IsElsewhere n) opened) (omega arith)
    (All-permutation (IsElsewhere position) (map placed c.entries) opened (IsPermutation-sym opened (map placed c.entries) same) elsewhere)))
