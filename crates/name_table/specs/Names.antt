-- The names of a style in the order of their ids, each with its kind (docs/LANGUAGE.md, "Names").
use Rattle.std.specs.Prelude.{ℕ, suc, Bool, false, ◌&&◌, not, map, List, [], ◌∷◌, Option, None, Some, nat_eq, if◌then◌else◌, slice_get}
use Rattle.std.specs.Option.{option_map}
use Rattle.std.specs.List.{list_all}
use Rattle.bv_base.specs.Bytes.{is_name_byte, lower}
use Rattle.bv_base.specs.Runs.{is_digit}
use Rattle.std.specs.Cmp.Lexicographic.{pointwise}
use Rattle.name_table.specs.declared.names.Kind.{Kind}
use Rattle.name_table.specs.declared.names.NameId.{NameId}

-- two names are the same bytes
abbrev pub same_name : List ℕ → List ℕ → Bool
same_name a b = pointwise nat_eq a b

-- the id that a name has once another stands before it
abbrev pub later : NameId → NameId
later id = record { 0 = suc id.0 }

-- the id of a name: the place at which it stands, counted from 0
abbrev pub id_of : List ℕ → List (List ℕ × Kind) → Option NameId
id_of name [] = None
id_of name (first ∷ rest) =
    if same_name name first.0 then Some (record { 0 = 0 }) else option_map later (id_of name rest)

-- the kind of the name with an id
abbrev pub kind_at : NameId → List (List ℕ × Kind) → Option Kind
kind_at id names = option_map (λ entry. entry.1) (slice_get names id.0)

-- the bytes of the name with an id
abbrev pub text_at : NameId → List (List ℕ × Kind) → Option (List ℕ)
text_at id names = option_map (λ entry. entry.0) (slice_get names id.0)

-- a name as it is compared and kept
abbrev pub lowered : List ℕ → List ℕ
lowered name = map lower name

-- a name that may be defined has name bytes alone and doesn't begin with a digit
abbrev pub is_definable : List ℕ → Bool
is_definable [] = false
is_definable (first ∷ rest) = not (is_digit first) && list_all is_name_byte (first ∷ rest)
