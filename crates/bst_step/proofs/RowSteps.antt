-- The key of the entry with a position of a table is that of the entry at the place of the list.
use Rattle.std.proofs.Common.{◌≡◌, ℕ, zero, suc, ◌+◌, ◌<◌, ◌≤◌, nat_eq, false, sym, ap, ◌∙◌, List, [], ◌∷◌, arith, get_or, length, map, slice_get}
use Rattle.std.proofs.lemmas.Bool.Decides.{nat_tests}
use Rattle.std.proofs.lemmas.List.Elements.{All-cons, All-head, All-nil, All-tail}
use Rattle.std.proofs.lemmas.List.Sorted.{All-permutation, IsPermutation-sym}
use Rattle.std.proofs.lemmas.Option.{slice_get-get_or, slice_get_past}
use Rattle.std.specs.List.{All, range_with_len}
use Rattle.std.specs.Option.{option_map_or}
use Rattle.name_table.specs.declared.names.NameId.{NameId}
use Rattle.bst_meaning.specs.EntryLists.{Entry}
use Rattle.bst_meaning.specs.Keeping.{placed}
use Rattle.entry_store.specs.PackedEntries.{nothing}
use Rattle.bst_step.specs.declared.held.Held.{Held}
use Rattle.bst_step.specs.EntryStates.{EntryState, IsTable, state_in, states_at}
use Rattle.bst_step.specs.Machine.{key_at}
use Rattle.bst_step.proofs.KeySteps.{IsElsewhere, StandsAt, found_or_none}
use Rattle.bst_step.proofs.TableSteps.{rows_within}

module _ (pool : List ℕ) (names : List NameId) (values : List Held) (entries : List Entry) where
  -- what is said of places holds of the entries there
  stand : (rows : List ℕ) → All (λ (p : ℕ). p < length entries) rows
      → All (StandsAt entries) (map placed (map (state_in pool) (states_at names values entries rows)))
  stand [] all = All-nil (StandsAt entries)
  stand (r ∷ rows) all =
      All-cons (StandsAt entries) (get_or entries r nothing, r) (map placed (map (state_in pool) (states_at names values entries rows)))
      (slice_get-get_or entries r nothing (All-head (λ (p : ℕ). p < length entries) r rows all))
      (stand rows (All-tail (λ (p : ℕ). p < length entries) r rows all))

  elsewhere : (position : ℕ) (rows : List ℕ) → All (IsElsewhere position) (map placed (map (state_in pool) (states_at names values entries rows)))
      → All (λ (p : ℕ). nat_eq p position ≡ false) rows
  elsewhere position [] all = All-nil (λ (p : ℕ). nat_eq p position ≡ false)
  elsewhere position (r ∷ rows) all =
      let others = map placed (map (state_in pool) (states_at names values entries rows)) in
      All-cons (λ (p : ℕ). nat_eq p position ≡ false) r rows (All-head (IsElsewhere position) (get_or entries r nothing, r) others all)
      (elsewhere position rows (All-tail (IsElsewhere position) (get_or entries r nothing, r) others all))

  -- where none of the places from one on is the position, it lies behind them
  beyond : (position at n : ℕ) → at ≤ position → All (λ (p : ℕ). nat_eq p position ≡ false) (range_with_len at n) → at + n ≤ position
  beyond position at zero early all = omega (arith, early)
  beyond position at (suc n) early all =
      let other : nat_eq at position ≡ false = All-head (λ (p : ℕ). nat_eq p position ≡ false) at (range_with_len (at + 1) n) all in
      let later : at + 1 ≤ position = next at position early other in
      omega (
        arith,
        beyond position (at + 1) n later (All-tail (λ (p : ℕ). nat_eq p position ≡ false) at (range_with_len (at + 1) n) all),
      )
    where
      next : (a b : ℕ) → a ≤ b → nat_eq a b ≡ false → a + 1 ≤ b
      next a b before other = grind (arith, nat_tests)

  pub key_there : (count : ℕ) (rows : List ℕ) (seen : List EntryState) (position : ℕ) → IsTable count values entries rows
      → states_at names values entries rows ≡ seen
      → option_map_or (λ (e : Entry). e.key) (slice_get entries position) [] ≡ key_at position (map (state_in pool) seen)
  key_there count rows seen position table is =
      sym (found_or_none entries position (map (state_in pool) (states_at names values entries rows))
      (stand rows (rows_within count values entries rows table))
      (λ others. slice_get_past entries position
      (omega (
        arith,
        beyond position 0 (length entries) (omega arith)
            (All-permutation (λ (p : ℕ). nat_eq p position ≡ false) rows (range_with_len 0 (length entries))
            (IsPermutation-sym (range_with_len 0 (length entries)) rows table.permuted) (elsewhere position rows others)),
      ))))
      ∙ ap (λ (es : List EntryState). key_at position (map (state_in pool) es)) is
