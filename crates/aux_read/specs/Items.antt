-- The items between the braces of a line (docs/DATA.md, "Lines of an .aux file").
use Rattle.std.specs.Prelude.{ℕ, Bool, ◌&&◌, not, nat_eq, nat_lt, if◌then◌else◌, List, [], ◌∷◌, length, take, drop, Option, None, Some}
use Rattle.std.specs.List.{list_all}
use Rattle.std.specs.Option.{option_and_then}
pub use Rattle.std.specs.Str.{is_utf8}
use Rattle.bstr.specs.Find.{matches}
use Rattle.bstr.specs.Text.{split_at}
use Rattle.bv_base.specs.Bytes.{is_white}
use Rattle.bv_base.specs.Runs.{is_black, length_before}

-- `}`
abbrev pub is_close : ℕ → Bool
is_close b = nat_eq b 125

-- what follows these bytes at the front of others
abbrev pub after_front : List ℕ → List ℕ → Option (List ℕ)
after_front [] bytes = Some bytes
after_front (mark ∷ marks) [] = None
after_front (mark ∷ marks) (b ∷ bytes) = if nat_eq b mark then after_front marks bytes else None

-- what stands before the first `}`
abbrev pub inside_of : List ℕ → Option (List ℕ)
inside_of bytes =
    let count = length_before is_close bytes in
    if nat_lt count (length bytes) then Some (take count bytes) else None

-- all bytes are white space
abbrev pub is_blank : List ℕ → Bool
is_blank bytes = list_all is_white bytes

-- an item: one or more bytes without white space, which nothing but white space follows
abbrev pub begun_item : List ℕ → Option (List ℕ)
begun_item bytes =
    let count = length_before is_white bytes in
    if not (nat_eq count 0) && is_blank (drop count bytes) then Some (take count bytes) else None

-- an item, with white space before it
abbrev pub item_of : List ℕ → Option (List ℕ)
item_of bytes = begun_item (drop (length_before is_black bytes) bytes)

-- an item that is UTF-8
abbrev pub file_name_of : List ℕ → Option (List ℕ)
file_name_of bytes = option_and_then (λ item. if is_utf8 item then Some item else None) (item_of bytes)

-- the stretches between commas, before the first and after the last
abbrev pub stretches : List ℕ → List (List ℕ)
stretches bytes = split_at bytes 1 0 (matches bytes (44 ∷ []) 0)
