-- Levels, special characters and control words of a text (docs/TEXTS.md, "Levels and special characters").
use Rattle.std.specs.Prelude.{ℕ, zero, suc, Bool, true, false, ◌+◌, ◌-◌, ◌&&◌, ◌||◌, not, nat_eq, nat_le, if◌then◌else◌, List, [], ◌∷◌, ◌++◌, length, drop, codes, bytes_eq}
use Rattle.std.specs.List.{list_any}
use Rattle.bv_base.specs.Bytes.{is_white}

-- a letter of ASCII, of either case
abbrev pub is_ascii_letter : ℕ → Bool
is_ascii_letter b = (nat_le 65 b && nat_le b 90) || (nat_le 97 b && nat_le b 122)

-- an ASCII letter, or a byte from 128 on
abbrev pub is_letter : ℕ → Bool
is_letter b = is_ascii_letter b || nat_le 128 b

-- `{` or `}`
abbrev pub is_brace : ℕ → Bool
is_brace b = nat_eq b 123 || nat_eq b 125

-- the level directly after a byte of this level: `{` raises it, and `}` lowers it where it is above 0
abbrev pub next_level : ℕ → ℕ → ℕ
next_level level b = if nat_eq b 123 then level + 1 else if nat_eq b 125 then level - 1 else level

-- the level of each byte, where the first has this one. A brace has the level before it counts
abbrev pub levels : ℕ → List ℕ → List ℕ
levels level [] = []
levels level (b ∷ bs) = level ∷ levels (next_level level b) bs

-- how many levels are open after the bytes, where the first has this level
abbrev pub level_after : ℕ → List ℕ → ℕ
level_after level [] = level
level_after level (b ∷ bs) = level_after (next_level level b) bs

-- a byte outside special characters with its level, or a special character: the bytes within its braces, and its
-- closing brace, or nothing where the text ends before it
pub data Piece : Type 0 where
  Plain : ℕ → ℕ → Piece
  Special : List ℕ → List ℕ → Piece

-- a special character begins with a `{` at level 0 that is directly followed by `\`
abbrev pub begins_special : ℕ → List ℕ → Bool
begins_special level [] = false
begins_special level (a ∷ []) = false
begins_special level (a ∷ b ∷ bs) = nat_eq a 123 && nat_eq b 92 && nat_eq level 0

-- the brace that matches one at level 0
abbrev pub is_closing : ℕ → ℕ → Bool
is_closing level b = nat_eq b 125 && nat_eq level 1

-- the bytes before the closing brace, where the first has this level
abbrev pub inside : ℕ → List ℕ → List ℕ
inside level [] = []
inside level (b ∷ bs) = if is_closing level b then [] else b ∷ inside (next_level level b) bs

-- the closing brace, or nothing where there is none
abbrev pub closing : ℕ → List ℕ → List ℕ
closing level [] = []
closing level (b ∷ bs) = if is_closing level b then b ∷ [] else closing (next_level level b) bs

-- what follows the closing brace
abbrev pub beyond : ℕ → List ℕ → List ℕ
beyond level bs = drop (length (inside level bs ++ closing level bs)) bs

-- the pieces of a text whose first byte has this level, without so many of its bytes: they belong to a special
-- character that began before
abbrev pub pieces_after : ℕ → ℕ → List ℕ → List Piece
pieces_after passed level [] = []
pieces_after (suc passed) level (b ∷ bs) = pieces_after passed (next_level level b) bs
pieces_after zero level (b ∷ bs) =
    if begins_special level (b ∷ bs)
    then Special (inside 1 bs) (closing 1 bs) ∷ pieces_after (length (inside 1 bs ++ closing 1 bs)) 1 bs
    else Plain level b ∷ pieces_after zero (next_level level b) bs

-- the pieces of a text, in order
abbrev pub pieces : List ℕ → List Piece
pieces text = pieces_after 0 0 text

-- the bytes of a piece
abbrev pub spelling : Piece → List ℕ
spelling (Plain level b) = b ∷ []
spelling (Special inner close) = 123 ∷ inner ++ close

-- a special character is one text character, and so is each other byte that is no brace
abbrev pub is_text_character : Piece → Bool
is_text_character (Plain level b) = not (is_brace b)
is_text_character (Special inner close) = true

-- the bytes from the front on that pass the test
abbrev pub run : (ℕ → Bool) → List ℕ → List ℕ
run test [] = []
run test (b ∷ bs) = if test b then b ∷ run test bs else []

-- a part of a special character: a control word with the white space directly after it, or another byte. The
-- letters of a control word are those directly after its `\`, and there may be none
pub data SpecialPart : Type 0 where
  ControlWord : List ℕ → List ℕ → SpecialPart
  Other : ℕ → SpecialPart

-- the letters of a control word, of the bytes after its `\`
abbrev pub word_letters : List ℕ → List ℕ
word_letters bs = run is_ascii_letter bs

-- the white space directly after the letters
abbrev pub word_space : List ℕ → List ℕ
word_space bs = run is_white (drop (length (word_letters bs)) bs)

-- the parts of the bytes within a special character, without so many of them: they belong to a control word that
-- began before. Of the bytes after its `\`, some belong to a control word, and white space directly after them
abbrev pub parts_by : (List ℕ → List ℕ) → (List ℕ → List ℕ) → ℕ → List ℕ → List SpecialPart
parts_by own space passed [] = []
parts_by own space (suc passed) (b ∷ bs) = parts_by own space passed bs
parts_by own space zero (b ∷ bs) =
    if nat_eq b 92
    then ControlWord (word_letters bs) (space bs) ∷ parts_by own space (length (own bs ++ space bs)) bs
    else Other b ∷ parts_by own space zero bs

-- the parts where its letters alone belong to a control word
abbrev pub parts_after : ℕ → List ℕ → List SpecialPart
parts_after passed bs = parts_by word_letters word_space passed bs

-- the parts of the bytes within a special character, in order
abbrev pub special_parts : List ℕ → List SpecialPart
special_parts inner = parts_after 0 inner

-- the word is one of these
abbrev pub is_one_of : List (List ℕ) → List ℕ → Bool
is_one_of words word = list_any (bytes_eq word) words

-- the control words that stand for letters of other languages
abbrev pub foreign_words : List (List ℕ)
foreign_words = codes "oe" ∷ codes "OE" ∷ codes "ae" ∷ codes "AE" ∷ codes "ss" ∷ codes "aa" ∷ codes "AA" ∷ codes "o" ∷ codes "O" ∷ codes "l" ∷ codes "L" ∷ codes "i" ∷ codes "j" ∷ []

-- the control word stands for a letter of another language
abbrev pub is_foreign : List ℕ → Bool
is_foreign letters = is_one_of foreign_words letters
