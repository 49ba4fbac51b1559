-- The parents that are left, and those that are named twice.
use Rattle.std.proofs.Common.{◌≡◌, ℕ, Bool, true, false, cond, ◌&&◌, ◌||◌, List, [], ◌∷◌, refl, sym, ap, ◌∙◌}
use Rattle.std.specs.Cmp.Lexicographic.{same_text}
use Rattle.std.specs.List.{list_any}
use Rattle.bv_base.specs.KeySets.{has_lowered}
use Rattle.name_table.specs.Names.{same_name, lowered}
use Rattle.entry_list.specs.Keys.{Listed, same_key, is_listed}
use Rattle.entry_list.specs.Parents.{is_named_twice, same_listed}
use Rattle.entry_list.proofs.Lists.{fresh, or_false}

-- a parent was looked at before
abbrev pub is_done : Listed → List (List ℕ) → Bool
is_done parent done = has_lowered parent.key done

-- the first parents that weren't looked at before
abbrev pub undone : List (List ℕ) → List Listed → List Listed
undone done parents = fresh same_listed is_done done parents

-- a key is named twice, where it was named twice or once before these
abbrev pub twice_with : Bool → Bool → List ℕ → List Listed → Bool
twice_with twice once key rest = twice || cond once (is_listed key rest) (is_named_twice key rest)

pub twice_end : (twice once : Bool) (key : List ℕ) → twice_with twice once key [] ≡ twice
twice_end twice true key = or_false twice
twice_end twice false key = or_false twice

-- a set holds both of two equal keys, or neither
pub has_same : (a b : List ℕ) (set : List (List ℕ)) → same_key a b ≡ true → has_lowered a set ≡ has_lowered b set
has_same a b set same = ap (λ t. list_any (same_name t) set) (same_text (lowered a) (lowered b) (sym same))

fresh_named : (t o s l n : Bool) → (s ≡ true → o ≡ false) → (t || cond (s || o) l n) ≡ (t || cond o (s || l) (cond s l n))
fresh_named t true true l n h = let e : true ≡ false = h refl in absurd cc
fresh_named t false true l n h = refl
fresh_named t true false l n h = refl
fresh_named t false false l n h = refl

again_named : (t o s l n : Bool) → (s ≡ true → o ≡ true)
    → ((s || t) || cond (s || o) l n) ≡ (t || cond o (s || l) (cond s l n))
again_named true true true l n h = refl
again_named false true true l n h = refl
again_named t false true l n h = let e : false ≡ true = h refl in absurd cc
again_named t true false l n h = refl
again_named t false false l n h = refl

-- a parent that wasn't named before
pub twice_fresh : (twice old new : List (List ℕ)) (parent : Listed) (key : List ℕ) (rest : List Listed)
    → has_lowered parent.key old ≡ false → has_lowered key new ≡ (same_key key parent.key || has_lowered key old)
    → twice_with (has_lowered key twice) (has_lowered key new) key rest
    ≡ twice_with (has_lowered key twice) (has_lowered key old) key (parent ∷ rest)
twice_fresh twice old new parent key rest none added =
    ap (λ b. has_lowered key twice || cond b (is_listed key rest) (is_named_twice key rest)) added
    ∙ fresh_named (has_lowered key twice) (has_lowered key old) (same_key key parent.key) (is_listed key rest)
    (is_named_twice key rest) (λ same. has_same key parent.key old same ∙ none)

-- a parent that was named before
pub twice_again : (twice twice_new old new : List (List ℕ)) (parent : Listed) (key : List ℕ) (rest : List Listed)
    → has_lowered parent.key old ≡ true → has_lowered key new ≡ (same_key key parent.key || has_lowered key old)
    → has_lowered key twice_new ≡ (same_key key parent.key || has_lowered key twice)
    → twice_with (has_lowered key twice_new) (has_lowered key new) key rest
    ≡ twice_with (has_lowered key twice) (has_lowered key old) key (parent ∷ rest)
twice_again twice twice_new old new parent key rest some added added_twice =
    ap (λ b. b || cond (has_lowered key new) (is_listed key rest) (is_named_twice key rest)) added_twice
    ∙ ap (λ b. (same_key key parent.key || has_lowered key twice) || cond b (is_listed key rest) (is_named_twice key rest)) added
    ∙ again_named (has_lowered key twice) (has_lowered key old) (same_key key parent.key) (is_listed key rest)
    (is_named_twice key rest) (λ same. has_same key parent.key old same ∙ some)

-- a parent that is named, once or again
pub twice_step : (twice twice_new old new : List (List ℕ)) (parent : Listed) (key : List ℕ) (rest : List Listed)
    → has_lowered key new ≡ (same_key key parent.key || has_lowered key old)
    → has_lowered key twice_new ≡ ((has_lowered parent.key old && same_key key parent.key) || has_lowered key twice)
    → twice_with (has_lowered key twice_new) (has_lowered key new) key rest
    ≡ twice_with (has_lowered key twice) (has_lowered key old) key (parent ∷ rest)
twice_step twice twice_new old new parent key rest added added_twice =
    by (has_lowered parent.key old) refl added_twice
  where
    by : (b : Bool) → has_lowered parent.key old ≡ b
        → has_lowered key twice_new ≡ ((b && same_key key parent.key) || has_lowered key twice)
        → twice_with (has_lowered key twice_new) (has_lowered key new) key rest
        ≡ twice_with (has_lowered key twice) (has_lowered key old) key (parent ∷ rest)
    by true is more = twice_again twice twice_new old new parent key rest is added more
    by false is more =
        ap (λ b. twice_with b (has_lowered key new) key rest) more
        ∙ twice_fresh twice old new parent key rest is added
