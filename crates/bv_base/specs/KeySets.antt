-- Sets of keys, and keys as they are compared (docs/LANGUAGE.md, "Names"; docs/DATA.md, "Entries").
use Rattle.std.specs.Prelude.{ℕ, Bool, nat_eq, if◌then◌else◌, List, [], ◌∷◌, ◌++◌, map}
use Rattle.std.specs.Cmp.Lexicographic.{pointwise}
use Rattle.std.specs.List.{list_any}
use Rattle.bv_base.specs.Bytes.{lower}

-- a key of these bytes is among these
abbrev pub has_key : List ℕ → List (List ℕ) → Bool
has_key key keys = list_any (pointwise nat_eq key) keys

-- a key is among these once it is lowered
abbrev pub has_lowered : List ℕ → List (List ℕ) → Bool
has_lowered key keys = has_key (map lower key) keys

-- the keys with one that is put in: as the last, unless it is there
abbrev pub with_key : List ℕ → List (List ℕ) → List (List ℕ)
with_key key keys = if has_key key keys then keys else keys ++ key ∷ []

-- an item with this key is among these
abbrev pub has_item : {T : Type 0} → (T → List ℕ) → List ℕ → List T → Bool
has_item key_of key items = list_any (λ item. pointwise nat_eq key (key_of item)) items
