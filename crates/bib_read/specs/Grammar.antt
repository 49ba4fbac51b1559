-- The grammar of databases over whole texts: items as trees, and how they are spelled (docs/DATA.md, "The .bib file").
-- In each relation the first bytes begin with what it speaks of, and the second follow it.
use Rattle.std.specs.Prelude.{◌≡◌, ℕ, ◌<◌, ◌⊎◌, Bool, true, false, ◌&&◌, ◌||◌, not, nat_eq, List, [], ◌∷◌, ◌++◌, length, codes}
use Rattle.bv_base.specs.Runs.{ends_digits, is_black, EndsBy, NoneOf}
use Rattle.name_table.specs.Names.{lowered, same_name}
use Rattle.bib_read.specs.Runs.{begins_name, ends_key, ends_name, is_at, level_after}

-- a piece of a value: a text in braces or in quotes, digits, or the name of a macro
pub data Piece : Type 0 where
  Braced : (text : List ℕ) → Piece
  Quoted : (text : List ℕ) → Piece
  Digits : (text : List ℕ) → Piece
  Named : (name : List ℕ) → Piece

-- a field of an entry: its name, and its value as one or more pieces
pub record FieldTree : Type 0 where
  pub name : List ℕ
  pub value : List Piece

-- what an `@` begins
pub data Item : Type 0 where
  Comment : (word : List ℕ) → Item
  Definition : (word name : List ℕ) (value : List Piece) → Item
  Preamble : (word : List ℕ) (value : List Piece) → Item
  Entry : (word key : List ℕ) (fields : List FieldTree) → Item

-- white space, which may be none
abbrev pub Gap : List ℕ → List ℕ → Type 0
Gap bytes rest = (gap : List ℕ) × NoneOf is_black gap × (bytes ≡ gap ++ rest)

-- white space, and this byte
abbrev pub Mark : ℕ → List ℕ → List ℕ → Type 0
Mark mark bytes rest = Gap bytes (mark ∷ rest)

-- the longest run up to a byte that passes the test
pub record Run (test : ℕ → Bool) (run bytes rest : List ℕ) : Type 0 where
  pub spelled : bytes ≡ run ++ rest
  pub inside : NoneOf test run
  pub ended : EndsBy test rest

-- white space, and an identifier: the longest run of name bytes, which isn't empty and doesn't begin with a digit
abbrev pub Identifier : List ℕ → List ℕ → List ℕ → Type 0
Identifier name bytes rest = (at : List ℕ) × Gap bytes at × Run ends_name name at rest × (begins_name name ≡ true)

-- white space, and what opens an item, with the byte that closes it
abbrev pub Opens : ℕ → List ℕ → List ℕ → Type 0
Opens close bytes rest = (Mark 123 bytes rest × (close ≡ 125)) ⊎ (Mark 40 bytes rest × (close ≡ 41))

-- within so many open braces each brace that is opened is closed, and neither the mark nor a `}` stands outside braces
abbrev pub is_inside : ℕ → ℕ → List ℕ → Bool
is_inside mark level [] = nat_eq level 0
is_inside mark level (b ∷ bytes) =
    not (nat_eq level 0 && (nat_eq b mark || nat_eq b 125)) && is_inside mark (level_after level b) bytes

-- how a piece is spelled, with white space before it
abbrev pub IsPiece : Piece → List ℕ → List ℕ → Type 0
IsPiece (Braced text) bytes rest = Mark 123 bytes (text ++ 125 ∷ rest) × (is_inside 125 0 text ≡ true)
IsPiece (Quoted text) bytes rest = Mark 34 bytes (text ++ 34 ∷ rest) × (is_inside 34 0 text ≡ true)
IsPiece (Digits text) bytes rest = (at : List ℕ) × Gap bytes at × Run ends_digits text at rest × (0 < length text)
IsPiece (Named name) bytes rest = Identifier name bytes rest

-- pieces with `#` between them, at least one
abbrev pub IsValue : List Piece → List ℕ → List ℕ → Type 0
IsValue [] bytes rest = ⊥
IsValue (piece ∷ []) bytes rest = IsPiece piece bytes rest
IsValue (piece ∷ (next ∷ pieces)) bytes rest =
    (at : List ℕ) × (more : List ℕ) × IsPiece piece bytes at × Mark 35 at more × IsValue (next ∷ pieces) more rest

-- an identifier, `=` and a value
abbrev pub IsField : FieldTree → List ℕ → List ℕ → Type 0
IsField field bytes rest =
    (at : List ℕ) × (more : List ℕ) × Identifier field.name bytes at × Mark 61 at more × IsValue field.value more rest

-- fields with a comma before each, a comma that may stand after the last, and the closing byte
abbrev pub IsFields : ℕ → List FieldTree → List ℕ → List ℕ → Type 0
IsFields close [] bytes rest = Mark close bytes rest ⊎ ((at : List ℕ) × Mark 44 bytes at × Mark close at rest)
IsFields close (field ∷ fields) bytes rest =
    (at : List ℕ) × (more : List ℕ) × Mark 44 bytes at × IsField field at more × IsFields close fields more rest

-- the word behind an `@`, in any case
abbrev pub is_word : List ℕ → List ℕ → Bool
is_word text word = same_name (lowered word) text

-- the word of an entry is its type, so none of the words of other items
pub record IsType (word : List ℕ) : Type 0 where
  pub comment : is_word (codes "comment") word ≡ false
  pub definition : is_word (codes "string") word ≡ false
  pub preamble : is_word (codes "preamble") word ≡ false

-- an item from its word on
abbrev pub IsItem : Item → List ℕ → List ℕ → Type 0
IsItem (Comment word) bytes rest = Identifier word bytes rest × (is_word (codes "comment") word ≡ true)
IsItem (Definition word name value) bytes rest =
    (close : ℕ) × (a : List ℕ) × (b : List ℕ) × (c : List ℕ) × (d : List ℕ) × (e : List ℕ)
    × Identifier word bytes a × (is_word (codes "string") word ≡ true)
    × Opens close a b × Identifier name b c × Mark 61 c d × IsValue value d e × Mark close e rest
IsItem (Preamble word value) bytes rest =
    (close : ℕ) × (a : List ℕ) × (b : List ℕ) × (c : List ℕ)
    × Identifier word bytes a × (is_word (codes "preamble") word ≡ true)
    × Opens close a b × IsValue value b c × Mark close c rest
IsItem (Entry word key fields) bytes rest =
    (close : ℕ) × (a : List ℕ) × (b : List ℕ) × (c : List ℕ) × (d : List ℕ)
    × Identifier word bytes a × IsType word
    × Opens close a b × Gap b c × Run (ends_key close) key c d × (0 < length key) × IsFields close fields d rest

-- a text is these items, each behind an `@`, with other text before, between and after them
abbrev pub Spells : List Item → List ℕ → Type 0
Spells [] bytes = NoneOf is_at bytes
Spells (item ∷ items) bytes =
    (between : List ℕ) × (at : List ℕ) × (rest : List ℕ)
    × NoneOf is_at between × (bytes ≡ between ++ 64 ∷ at) × IsItem item at rest × Spells items rest
