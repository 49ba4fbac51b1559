-- The places of bytes (docs/LANGUAGE.md, "Places").
use Rattle.std.specs.Prelude.{◌≡◌, ℕ, ◌+◌, ◌-◌, ◌≤◌, nat_eq, if◌then◌else◌, List, [], ◌∷◌, length, take}
use Rattle.bv_base.specs.declared.place.Place.{Place}

-- the place of a text's first byte
abbrev pub first_place : Place
first_place = record { line = 1; column = 1 }

-- the place of the next byte: a line ends at byte 10
abbrev pub after_byte : ℕ → Place → Place
after_byte b place =
    if nat_eq b 10 then record { line = place.line + 1; column = 1 }
    else record { line = place.line; column = place.column + 1 }

-- the place after some bytes
abbrev pub after_bytes : List ℕ → Place → Place
after_bytes [] place = place
after_bytes (b ∷ bytes) place = after_bytes bytes (after_byte b place)

-- the place of the byte before which `at` bytes stand, or of the source's end
abbrev pub place_at : List ℕ → ℕ → Place
place_at source at = after_bytes (take at source) first_place

-- the place of a text at which so many of its bytes are left
abbrev pub place_before : List ℕ → ℕ → Place
place_before source left = place_at source (length source - left)

-- the place some bytes further on in the same line
abbrev pub along : Place → ℕ → Place
along place bytes = record { line = place.line; column = place.column + bytes }

-- the place of a byte of the source, or of its end
abbrev pub StandsIn : List ℕ → Place → Type 0
StandsIn source place = (at : ℕ) × (at ≤ length source) × (place ≡ place_at source at)
