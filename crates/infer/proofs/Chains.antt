-- Lists of which each item stands before the next one.
use Rattle.std.proofs.Common.{◌≡◌, Bool, true, false, ◌&&◌, cond, List, [], ◌∷◌, refl}
use Rattle.std.specs.List.{filter, list_all}
use Rattle.std.proofs.lemmas.Bool.{and_from, and_parts}
use Rattle.name_table.specs.Sound.{Each}
use Rattle.cert_format.specs.CondText.{is_chain}

-- each item stands before all behind it
abbrev pub rises : {A : Type 0} → (A → A → Bool) → List A → Bool
rises before [] = true
rises before (x ∷ xs) = list_all (before x) xs && rises before xs

-- an item that stands before all of a list stands before its first
pub chain_cons : {A : Type 0} (before : A → A → Bool) (x : A) (xs : List A) → list_all (before x) xs ≡ true → is_chain before xs ≡ true
    → is_chain before (x ∷ xs) ≡ true
chain_cons before x [] all chain = refl
chain_cons before x (y ∷ xs) all chain =
    and_from (before x y) (is_chain before (y ∷ xs)) (and_parts (before x y) (list_all (before x) xs) all).0 chain

-- what holds of all items holds of those that pass a test
all_filtered : {A : Type 0} (test p : A → Bool) (xs : List A) → list_all p xs ≡ true → list_all p (filter test xs) ≡ true
all_filtered test p [] all = refl
all_filtered test p (x ∷ xs) all =
    let both = and_parts (p x) (list_all p xs) all in
    elim (test x) as (λ t. list_all p (cond t (x ∷ filter test xs) (filter test xs)) ≡ true) [
      | true ↦ and_from (p x) (list_all p (filter test xs)) both.0 (all_filtered test p xs both.1)
      | false ↦ all_filtered test p xs both.1
    ]

pub each_filtered : {A : Type 0} (test : A → Bool) (P : A → Type 0) (xs : List A) → Each P xs → Each P (filter test xs)
each_filtered test P [] each = tt
each_filtered test P (x ∷ xs) each = elim (test x) as (λ t. Each P (cond t (x ∷ filter test xs) (filter test xs))) [
  | true ↦ (each.0, each_filtered test P xs each.1)
  | false ↦ each_filtered test P xs each.1
]

-- those that pass a test stand in the same order
pub chain_filtered : {A : Type 0} (before : A → A → Bool) (test : A → Bool) (xs : List A) → rises before xs ≡ true → is_chain before (filter test xs) ≡ true
chain_filtered before test [] rise = refl
chain_filtered before test (x ∷ xs) rise =
    let both = and_parts (list_all (before x) xs) (rises before xs) rise in
    elim (test x) as (λ t. is_chain before (cond t (x ∷ filter test xs) (filter test xs)) ≡ true) [
      | true ↦ chain_cons before x (filter test xs) (all_filtered test (before x) xs both.0) (chain_filtered before test xs both.1)
      | false ↦ chain_filtered before test xs both.1
    ]
