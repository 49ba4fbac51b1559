-- The lines of a text and their items (docs/CERTIFICATES.md, "Lines and items").
use Rattle.std.specs.Prelude.{ℕ, suc, ◌+◌, Bool, nat_eq, if◌then◌else◌, List, [], ◌∷◌, length, map, Result, Ok, Err}
use Rattle.cert_format.specs.declared.stop.Stop.{Stop}
use Rattle.cert_format.specs.declared.stop.Stop.TheVariants.{Syntax}

-- an item, and how many bytes of the text are left where it begins
pub record Item : Type 0 where
  pub text : List ℕ
  pub left : ℕ

-- the items of a line that are left, and how many bytes of the text are left where its byte 10 stands; none where the
-- text ends without one
pub record Line : Type 0 where
  pub items : List Item
  pub end : ℕ

-- the bytes of a line, and how many bytes of the text are left where it ends
pub record Stretch : Type 0 where
  pub bytes : List ℕ
  pub end : ℕ

-- a space
abbrev pub is_space : ℕ → Bool
is_space b = nat_eq b 32

-- byte 10
abbrev pub is_newline : ℕ → Bool
is_newline b = nat_eq b 10

-- a byte before the first of some items belongs to it
abbrev pub begun : ℕ → List Item → List Item
begun b [] = []
begun b (item ∷ items) = record { text = b ∷ item.text; left = suc item.left } ∷ items

-- the items of a line: the stretches between single spaces
abbrev pub items_of : ℕ → List ℕ → List Item
items_of end [] = record { text = []; left = end } ∷ []
items_of end (b ∷ bytes) =
    if is_space b then record { text = []; left = length (b ∷ bytes) + end } ∷ items_of end bytes
    else begun b (items_of end bytes)

-- the items after one behind which these bytes stand
abbrev pub after_space : ℕ → List ℕ → List Item
after_space end [] = []
after_space end (b ∷ bytes) = items_of end bytes

-- a byte before the first of some lines belongs to it
abbrev pub longer : ℕ → List Stretch → List Stretch
longer b [] = record { bytes = b ∷ []; end = 0 } ∷ []
longer b (line ∷ lines) = record { bytes = b ∷ line.bytes; end = line.end } ∷ lines

-- the lines of a text as their bytes: each ends at its byte 10, or at the text's end
abbrev pub stretches : List ℕ → List Stretch
stretches [] = []
stretches (b ∷ bytes) =
    if is_newline b then record { bytes = []; end = length (b ∷ bytes) } ∷ stretches bytes else longer b (stretches bytes)

-- a line as its items
abbrev pub line_of : Stretch → Line
line_of stretch = record { items = items_of stretch.end stretch.bytes; end = stretch.end }

-- the lines of a text
abbrev pub lines_of : List ℕ → List Line
lines_of bytes = map line_of (stretches bytes)

-- the next of some items; where none is left, the line's end is at fault
abbrev pub next_of : ℕ → List Item → Result (Item × Line) Stop
next_of end [] = Err (Syntax end)
next_of end (item ∷ items) = Ok (item, record { items = items; end = end })

-- a line with an item before those that are left
abbrev pub with_item : Item → Line → Line
with_item item line = record { items = item ∷ line.items; end = line.end }

-- the next item of a line
abbrev pub next_item : Line → Result (Item × Line) Stop
next_item line = next_of line.end line.items

-- no item is left, and the line ends with byte 10
abbrev pub ended_by : ℕ → List Item → Result (Unit {0}) Stop
ended_by end [] = if nat_eq end 0 then Err (Syntax 0) else Ok tt
ended_by end (item ∷ items) = Err (Syntax item.left)

-- a line ends here
abbrev pub line_end : Line → Result (Unit {0}) Stop
line_end line = ended_by line.end line.items
