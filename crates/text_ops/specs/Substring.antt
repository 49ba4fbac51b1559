-- A part of a text by its place and its length (docs/TEXTS.md, "substring$").
use Rattle.std.specs.Prelude.{ℕ, ◌-◌, ◌||◌, nat_eq, nat_lt, if◌then◌else◌, List, [], length, take, drop, ℤ, pos, negsuc, int_le, unsigned_abs}

-- the last so many bytes
abbrev pub last_bytes : ℕ → List ℕ → List ℕ
last_bytes count text = drop (length text - count) text

-- at most so many bytes: from a place on, counted from the left, or up to a place, counted from the right. The
-- first byte and the last one are the places 1 and -1
abbrev pub part : List ℕ → ℤ → ℕ → List ℕ
part text (pos place) count = take count (drop (place - 1) text)
part text (negsuc behind) count = last_bytes count (take (length text - behind) text)

-- empty where the length is not above 0, or where there is no such place
abbrev pub substring_of : List ℕ → ℤ → ℤ → List ℕ
substring_of text start count =
    if int_le count (pos 0) || (nat_eq (unsigned_abs start) 0 || nat_lt (length text) (unsigned_abs start))
    then []
    else part text start (unsigned_abs count)
