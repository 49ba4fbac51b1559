-- How far white space, identifiers, keys, numbers and the insides of braces and quotes reach
-- (docs/DATA.md, "The .bib file").
use Rattle.std.specs.Prelude.{ℕ, suc, ◌+◌, ◌-◌, Bool, false, ◌&&◌, ◌||◌, not, nat_eq, if◌then◌else◌, List, [], ◌∷◌, drop, Option, None, Some}
use Rattle.bv_base.specs.Bytes.{is_white as white, is_name_byte}
use Rattle.bv_base.specs.Runs.{is_digit, length_before}

-- `@`
abbrev pub is_at : ℕ → Bool
is_at b = nat_eq b 64

-- every byte but name bytes
abbrev pub ends_name : ℕ → Bool
ends_name b = not (is_name_byte b)

-- white space and the comma end a key, and `}` in an entry that `}` closes
abbrev pub ends_key : ℕ → ℕ → Bool
ends_key close b = white b || (nat_eq b 44 || (nat_eq b 125 && nat_eq close 125))

-- all but the first byte
abbrev pub after_first : List ℕ → Option (List ℕ)
after_first [] = None
after_first (b ∷ bytes) = Some bytes

-- what is left after the first `@`
abbrev pub after_at : List ℕ → Option (List ℕ)
after_at bytes = after_first (drop (length_before is_at bytes) bytes)

-- an identifier stands first: a name byte that is no digit
abbrev pub begins_name : List ℕ → Bool
begins_name [] = false
begins_name (b ∷ _) = is_name_byte b && not (is_digit b)

-- how many braces are open after a byte, where so many are open before it
abbrev pub level_after : ℕ → ℕ → ℕ
level_after level b = if nat_eq b 123 then level + 1 else if nat_eq b 125 then level - 1 else level

-- how many bytes stand before the mark that ends a piece, or before a `}`, where no brace is open
abbrev pub inside_length : ℕ → ℕ → List ℕ → ℕ
inside_length mark level [] = 0
inside_length mark level (b ∷ bytes) =
    if nat_eq level 0 && (nat_eq b mark || nat_eq b 125) then 0
    else suc (inside_length mark (level_after level b) bytes)
