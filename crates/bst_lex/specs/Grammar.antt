-- The grammar of lexemes over whole texts: lexemes with white space and comments between them, up to the end or to
-- a fault (docs/LANGUAGE.md, "Lexemes" and "Faults of lexemes").
use Rattle.std.specs.Prelude.{◌≡◌, ℕ, suc, ◌+◌, ◌<◌, ◌≤◌, ◌⊎◌, Bool, true, false, ◌&&◌, not, nat_eq, if◌then◌else◌, List, [], ◌∷◌, ◌++◌, length, drop, Option, None, Some}
use Rattle.bv_base.specs.Bytes.{is_white}
use Rattle.bv_base.specs.declared.limits.TheConstants.{GREATEST_INTEGER}
use Rattle.bv_base.specs.declared.place.Place.{Place}
use Rattle.bst_lex.specs.declared.lexeme.LexFault.{LexFault}
use Rattle.bst_lex.specs.declared.lexeme.LexFault.TheVariants.{NoEndQuote, BadInteger, StuffAfterToken, IllegalByte, IntegerRange}
use Rattle.bst_lex.specs.declared.lexeme.Shape.{Shape}
use Rattle.bst_lex.specs.declared.lexeme.Shape.TheVariants.{OpenBrace, CloseBrace, Integer, Text, Quoted, Name}
use Rattle.bst_lex.specs.Lexemes.{Seen}
use Rattle.bv_base.specs.Runs.{ends_digits, number_from, EndsBy, NoneOf}
use Rattle.bst_lex.specs.Pieces.{ends_clean, ends_inside, ends_run, first_is, is_control, may_follow, signed}
use Rattle.bv_base.specs.Places.{after_bytes, along}

-- the byte that ends a line
abbrev pub is_line_end : ℕ → Bool
is_line_end b = nat_eq b 10

-- what may stand between lexemes: a byte of white space, or a comment, which is `%` and some bytes
pub data Space : Type 0 where
  White : (b : ℕ) → Space
  Comment : (inside : List ℕ) → Space

-- the bytes of what stands between two lexemes
abbrev pub spaces : List Space → List ℕ
spaces [] = []
spaces (White b ∷ gap) = b ∷ spaces gap
spaces (Comment inside ∷ gap) = 37 ∷ (inside ++ spaces gap)

-- before these bytes: white space is white, and a comment reaches up to its line's end
abbrev pub IsGap : List Space → List ℕ → Type 0
IsGap [] rest = Unit {0}
IsGap (White b ∷ gap) rest = (is_white b ≡ true) × IsGap gap rest
IsGap (Comment inside ∷ gap) rest =
    NoneOf is_line_end inside × EndsBy is_line_end (spaces gap ++ rest) × IsGap gap rest

-- the sign of an integer
abbrev pub sign : Bool → List ℕ
sign minus = if minus then 45 ∷ [] else []

-- the number without its sign that an integer may have at most
abbrev pub greatest : Bool → ℕ
greatest minus = if minus then suc GREATEST_INTEGER else GREATEST_INTEGER

-- `#`, an optional `-` and digits
pub record IsInteger (minus : Bool) (digits text : List ℕ) : Type 0 where
  pub spelled : text ≡ 35 ∷ (sign minus ++ digits)
  pub digits_only : NoneOf ends_digits digits
  pub some : 0 < length digits

-- `"`, bytes other than `"` and the line's end, and `"`
pub record IsText (inside text : List ℕ) : Type 0 where
  pub spelled : text ≡ 34 ∷ (inside ++ 34 ∷ [])
  pub plain : NoneOf ends_inside inside

-- neither of the marks `#` and `"` stands first, so a run does, or `'` and a run
abbrev pub begins_run : List ℕ → Bool
begins_run bytes = not (first_is (nat_eq 35) bytes) && not (first_is (nat_eq 34) bytes)

-- a lexeme of a shape, with what follows it
abbrev pub IsLexeme : Shape → List ℕ → List ℕ → Type 0
IsLexeme OpenBrace text rest = text ≡ 123 ∷ []
IsLexeme CloseBrace text rest = text ≡ 125 ∷ []
IsLexeme (Integer n) text rest =
    (minus : Bool) × (digits : List ℕ)
    × IsInteger minus digits text × (number_from 0 digits ≤ greatest minus) × (n ≡ signed minus (number_from 0 digits))
    × (may_follow rest ≡ true)
IsLexeme Text text rest = (inside : List ℕ) × IsText inside text × (may_follow rest ≡ true)
IsLexeme Quoted text rest =
    (first_is (nat_eq 39) text ≡ true) × NoneOf ends_clean text × EndsBy ends_run rest
IsLexeme Name text rest =
    (0 < length text) × (first_is (nat_eq 39) text ≡ false) × (begins_run text ≡ true) × NoneOf ends_clean text
    × EndsBy ends_run rest

-- a fault of the lexeme that these bytes begin with, which stand at a place; an earlier fault in the order of the
-- cases isn't there
abbrev pub IsFault : Place → List ℕ → LexFault → Type 0
IsFault place bytes (NoEndQuote at) =
    (at ≡ place)
    × (inside : List ℕ) × (rest : List ℕ)
    × (bytes ≡ 34 ∷ (inside ++ rest)) × NoneOf ends_inside inside × EndsBy is_line_end rest
IsFault place bytes (BadInteger at) =
    (at ≡ place)
    × (minus : Bool) × (rest : List ℕ)
    × (bytes ≡ 35 ∷ (sign minus ++ rest)) × (first_is (nat_eq 45) (drop 1 bytes) ≡ minus)
    × EndsBy ends_digits rest
IsFault place bytes (StuffAfterToken at) =
    (text : List ℕ) × (rest : List ℕ)
    × (bytes ≡ text ++ rest) × (at ≡ along place (length text)) × (may_follow rest ≡ false)
    × (((minus : Bool) × (digits : List ℕ) × IsInteger minus digits text × EndsBy ends_digits rest)
    ⊎ ((inside : List ℕ) × IsText inside text))
IsFault place bytes (IllegalByte at) =
    (run : List ℕ) × (b : ℕ) × (rest : List ℕ)
    × (bytes ≡ run ++ b ∷ rest) × (at ≡ along place (length run)) × (begins_run bytes ≡ true) × NoneOf ends_clean run
    × (is_control b ≡ true)
IsFault place bytes (IntegerRange at) =
    (at ≡ place)
    × (minus : Bool) × (digits : List ℕ) × (text : List ℕ) × (rest : List ℕ)
    × (bytes ≡ text ++ rest) × IsInteger minus digits text × (greatest minus < number_from 0 digits)
    × (may_follow rest ≡ true)

-- the bytes from one of their text's bytes on, which stands at a place, are these lexemes with gaps between them,
-- up to the end or to a fault
abbrev pub Spells : ℕ → Place → List ℕ → List Seen → Option LexFault → Type 0
Spells start place bytes [] None = (gap : List Space) × (bytes ≡ spaces gap) × IsGap gap []
Spells start place bytes [] (Some fault) =
    (gap : List Space) × (rest : List ℕ)
    × (bytes ≡ spaces gap ++ rest) × IsGap gap rest × IsFault (after_bytes (spaces gap) place) rest fault
Spells start place bytes (lexeme ∷ lexemes) fault =
    (gap : List Space) × (rest : List ℕ)
    × (bytes ≡ spaces gap ++ (lexeme.text ++ rest)) × IsGap gap (lexeme.text ++ rest)
    × (lexeme.start ≡ start + length (spaces gap)) × (lexeme.place ≡ after_bytes (spaces gap) place)
    × IsLexeme lexeme.shape lexeme.text rest
    × Spells (lexeme.start + length lexeme.text) (after_bytes lexeme.text lexeme.place) rest lexemes fault
