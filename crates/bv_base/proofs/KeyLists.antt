-- The list of a set of keys, and what is among it.
use Rattle.std.proofs.Common.{◌≡◌, ℕ, Bool, true, false, ◌||◌, cond, nat_eq, List, [], ◌∷◌, ◌++◌, map, refl, sym, ap, ◌∙◌}
use Rattle.std.specs.Global.{Vec}
use Rattle.std.specs.Cmp.Lexicographic.{pointwise, same_text}
use Rattle.std.specs.List.{list_any}
use Rattle.std.proofs.lemmas.List.Folds.{list_any-append}
use Rattle.indexmap.specs.IndexSet.{insert_key}
use Rattle.bv_base.specs.KeySets.{has_item, has_key, with_key}

-- a test of the bytes of keys is one of the keys
pub has_bytes : (key : List ℕ) (keys : List (Vec ℕ))
    → list_any (λ k. pointwise nat_eq key k.items) keys ≡ has_key key (map (λ k. k.items) keys)
has_bytes key [] = refl
has_bytes key (k ∷ keys) = ap (λ b. pointwise nat_eq key k.items || b) (has_bytes key keys)

bytes_last : (key : Vec ℕ) (keys : List (Vec ℕ)) → map (λ k. k.items) (keys ++ key ∷ []) ≡ map (λ k. k.items) keys ++ key.items ∷ []
bytes_last key [] = refl
bytes_last key (k ∷ keys) = ap (λ ks. k.items ∷ ks) (bytes_last key keys)

-- the bytes of the keys once one is put in
pub bytes_with : (key : Vec ℕ) (keys : List (Vec ℕ))
    → map (λ k. k.items) (insert_key (λ a b. pointwise nat_eq a.items b.items) keys key)
    ≡ with_key key.items (map (λ k. k.items) keys)
bytes_with key keys =
    by (list_any (λ (k : Vec ℕ). pointwise nat_eq key.items k.items) keys)
    ∙ ap (λ b. cond b (map (λ k. k.items) keys) (map (λ k. k.items) keys ++ key.items ∷ [])) (has_bytes key.items keys)
  where
    by : (b : Bool) → map (λ k. k.items) (cond b keys (keys ++ key ∷ []))
        ≡ cond b (map (λ k. k.items) keys) (map (λ k. k.items) keys ++ key.items ∷ [])
    by true = refl
    by false = bytes_last key keys

or_last : (a b : Bool) → (a || (b || false)) ≡ (b || a)
or_last true true = refl
or_last true false = refl
or_last false true = refl
or_last false false = refl

-- what is among the keys once one is put in: that one, and what was among them
pub has_with : (key : List ℕ) (keys : List (List ℕ)) (other : List ℕ)
    → has_key other (with_key key keys) ≡ (pointwise nat_eq other key || has_key other keys)
has_with key keys other = by (has_key key keys) refl
  where
    there : (b : Bool) → has_key key keys ≡ true → b ≡ pointwise nat_eq other key
        → has_key other keys ≡ (b || has_key other keys)
    there true has same = ap (λ k. has_key k keys) (same_text other key same) ∙ has
    there false has same = refl

    by : (b : Bool) → has_key key keys ≡ b
        → has_key other (cond b keys (keys ++ key ∷ [])) ≡ (pointwise nat_eq other key || has_key other keys)
    by true has = there (pointwise nat_eq other key) has refl
    by false has =
        list_any-append (pointwise nat_eq other) keys (key ∷ [])
        ∙ or_last (has_key other keys) (pointwise nat_eq other key)

-- where an item is put last in a list, and its key into the set of the list's keys, the set is still that of the keys
pub item_added : {X : Type 0} (key_of : X → List ℕ) (xs after : List X) (x : X) (keys new : List (List ℕ)) (key other : List ℕ)
    → after ≡ xs ++ x ∷ [] → has_item key_of other xs ≡ has_key other keys → key ≡ key_of x
    → has_key other new ≡ (pointwise nat_eq other key || has_key other keys)
    → has_item key_of other after ≡ has_key other new
item_added {X = X} key_of xs after x keys new key other put held same added =
    let p : X → Bool = λ item. pointwise nat_eq other (key_of item) in
    ap (list_any p) put
    ∙ list_any-append p xs (x ∷ [])
    ∙ ap (λ b. b || (p x || false)) held
    ∙ ap (λ b. has_key other keys || (pointwise nat_eq other b || false)) (sym same)
    ∙ or_last (has_key other keys) (pointwise nat_eq other key)
    ∙ sym added
