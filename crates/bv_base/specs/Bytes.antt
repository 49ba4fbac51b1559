-- The classes of bytes of the style language (docs/LANGUAGE.md, "Bytes").
use Rattle.std.specs.Prelude.{ℕ, Bool, ◌+◌, ◌&&◌, ◌||◌, nat_le, not, if◌then◌else◌, List, [], ◌∷◌, codes, nat_eq}
use Rattle.std.specs.List.{list_any}

-- the byte is one of these
abbrev pub is_among : List ℕ → ℕ → Bool
is_among marks b = list_any (nat_eq b) marks

-- tab, line feed, carriage return and space
abbrev pub is_white : ℕ → Bool
is_white b = is_among (9 ∷ 10 ∷ 13 ∷ 32 ∷ []) b

-- what ends a name or begins another lexeme, and the parts of a data file's values
abbrev pub is_mark : ℕ → Bool
is_mark b = is_among (codes "\"#%'(),={}") b

-- what may stand in a name that a style declares
abbrev pub is_name_byte : ℕ → Bool
is_name_byte b = (nat_le 33 b && nat_le b 126 && not (is_mark b)) || nat_le 128 b

-- an ASCII capital becomes its small letter
abbrev pub lower : ℕ → ℕ
lower b = if (nat_le 65 b && nat_le b 90) then b + 32 else b
