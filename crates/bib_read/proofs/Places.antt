-- The places of keys tell the entries that have them.
use Rattle.std.proofs.Common.{arith, ◌≡◌, ℕ, zero, suc, ◌+◌, ◌<◌, Bool, true, false, cond, ◌||◌, nat_eq, nat_lt, List, [], ◌∷◌, ◌++◌, Some, None, not, length, map, get_or, position, slice_get, refl, sym, ap, ◌∙◌}
use Rattle.std.proofs.lemmas.Bool.{or_parts}
use Rattle.std.proofs.lemmas.List.{length-map, map-append}
use Rattle.std.proofs.lemmas.List.Quantifiers.{position-Some}
use Rattle.std.proofs.lemmas.Option.{slice_get-get_or}
use Rattle.std.specs.Cmp.Lexicographic.{pointwise, same_text}
use Rattle.std.specs.List.{position_or_len}
use Rattle.indexmap.specs.IndexSet.{insert_key}
use Rattle.bv_base.specs.KeySets.{has_item, has_key}
use Rattle.name_table.specs.Names.{lowered, same_name}
use Rattle.bib_read.specs.RawEntries.{RawEntry}
use Rattle.bib_read.specs.Names.{entry_under, has_entry, lowered_keys}

length_before : {X Y : Type 0} (f : X → Y) (p : Y → Bool) (xs : List X)
    → position_or_len (λ x. p (f x)) xs ≡ position_or_len p (map f xs)
length_before f p [] = refl
length_before f p (x ∷ xs) = ap (λ n. cond (not (p (f x))) (1 + n) 0) (length_before f p xs)

-- a place in a list is that in the list of what is seen
pub place_seen : {X Y : Type 0} (f : X → Y) (p : Y → Bool) (xs : List X) → position (λ x. p (f x)) xs ≡ position p (map f xs)
place_seen f p xs =
    let n = position_or_len p (map f xs) in
    ap (λ i. cond (nat_lt i (length xs)) (Some i) None) (length_before f p xs)
    ∙ ap (λ m. cond (nat_lt n m) (Some n) None) (sym (length-map xs f))

-- a key is among those that are seen of items where an item has it
pub has_seen : {X : Type 0} (f : X → List ℕ) (key : List ℕ) (xs : List X) → has_item f key xs ≡ has_key key (map f xs)
has_seen f key [] = refl
has_seen f key (x ∷ xs) = ap (λ b. pointwise nat_eq key (f x) || b) (has_seen f key xs)

-- an item with a key that none of the others has is put behind them
pub put_behind : {X : Type 0} (f : X → List ℕ) (xs : List X) (x : X) (keys : List (List ℕ)) (key : List ℕ)
    → map f xs ≡ keys → f x ≡ key → has_key key keys ≡ false
    → map f (insert_key (λ a b. pointwise nat_eq (f a) (f b)) xs x) ≡ keys ++ key ∷ []
put_behind f xs x keys key seen has none =
    ap (λ b. map f (cond b xs (xs ++ x ∷ [])))
    (has_seen f (f x) xs ∙ ap (has_key (f x)) seen ∙ ap (λ k. has_key k keys) has ∙ none)
    ∙ map-append f xs (x ∷ [])
    ∙ ap (λ ks. ks ++ f x ∷ []) seen
    ∙ ap (λ k. keys ++ k ∷ []) has

-- a key is among the keys of entries where an entry has it
pub has_keyed : (key : List ℕ) (entries : List RawEntry) → has_key key (lowered_keys entries) ≡ has_entry key entries
has_keyed key [] = refl
has_keyed key (e ∷ entries) = ap (λ b. same_name key (lowered e.key) || b) (has_keyed key entries)

under_at : (key : List ℕ) (entries : List RawEntry) (at : ℕ) (d : RawEntry) → at < length entries
    → same_name key (lowered (get_or entries at d).key) ≡ true
    → ((k : ℕ) → k < at → same_name key (lowered (get_or entries k d).key) ≡ false) → slice_get entries at ≡ entry_under key entries
under_at key [] at d within is none = absurd (omega (arith, within))
under_at key (e ∷ entries) zero d within is none = ap (λ b. cond b (Some e) (entry_under key entries)) (sym is)
under_at key (e ∷ entries) (suc at) d within is none =
    under_at key entries at d (omega (arith, within)) is (λ k before. none (suc k) (omega (arith, before)))
    ∙ ap (λ b. cond b (Some e) (entry_under key entries)) (sym (none zero (omega arith)))

-- the entry at the place of a key has it, and none before it
pub found_under : (key : List ℕ) (entries : List RawEntry) (at : ℕ) → position (same_name key) (lowered_keys entries) ≡ Some at
    → slice_get entries at ≡ entry_under key entries
found_under key [] at is = absurd cc
found_under key (e ∷ entries) at is =
    let there = position-Some (λ (one : RawEntry). same_name key (lowered one.key)) (e ∷ entries) at e
    (place_seen (λ (one : RawEntry). lowered one.key) (same_name key) (e ∷ entries) ∙ is) in
    under_at key (e ∷ entries) at e there.0 there.1 there.2

-- where no entry has a key, none is under it
pub none_under : (key : List ℕ) (entries : List RawEntry) → has_entry key entries ≡ false → entry_under key entries ≡ None
none_under key [] none = refl
none_under key (e ∷ entries) none =
    let apart = or_parts (same_name key (lowered e.key)) (has_entry key entries) none in
    ap (λ b. cond b (Some e) (entry_under key entries)) apart.0 ∙ none_under key entries apart.1

-- a key stands at its place
pub key_placed : (key : List ℕ) (keys : List (List ℕ)) (at : ℕ) → position (pointwise nat_eq key) keys ≡ Some at → slice_get keys at ≡ Some key
key_placed key keys at is =
    let there = position-Some (pointwise nat_eq key) keys at [] is in
    slice_get-get_or keys at [] there.0 ∙ ap Some (sym (same_text key (get_or keys at []) (sym there.1)))

-- a key that is put behind others stands there
pub key_behind : (keys later : List (List ℕ)) (key : List ℕ) (count : ℕ) → count ≡ length keys → later ≡ keys ++ key ∷ []
    → slice_get later count ≡ Some key
key_behind keys later key count long added =
    ap (λ (n : ℕ). slice_get later n) long ∙ ap (λ (l : List (List ℕ)). slice_get l (length keys)) added ∙ last keys
  where
    last : (keys : List (List ℕ)) → slice_get (keys ++ key ∷ []) (length keys) ≡ Some key
    last [] = refl
    last (first ∷ keys) = last keys
