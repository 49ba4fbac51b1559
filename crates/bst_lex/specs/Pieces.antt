-- How far a lexeme, white space or a comment reaches, and what is wrong with a lexeme
-- (docs/LANGUAGE.md, "Lexemes" and "Faults of lexemes").
use Rattle.std.specs.Prelude.{ℕ, zero, suc, ◌+◌, ℤ, pos, negsuc, Bool, true, false, ◌&&◌, ◌||◌, not, nat_eq, nat_le, nat_lt, if◌then◌else◌, List, [], ◌∷◌, take, drop, Result, Ok, Err, codes}
use Rattle.bv_base.specs.Bytes.{is_among, is_white}
use Rattle.bv_base.specs.declared.place.Place.{Place}
use Rattle.bv_base.specs.declared.limits.TheConstants.{GREATEST_INTEGER}
use Rattle.bst_lex.specs.declared.lexeme.LexFault.{LexFault}
use Rattle.bst_lex.specs.declared.lexeme.LexFault.TheVariants.{NoEndQuote, BadInteger, StuffAfterToken, IllegalByte, IntegerRange}
use Rattle.bst_lex.specs.declared.lexeme.Piece.{Piece}
use Rattle.bst_lex.specs.declared.lexeme.Shape.{Shape}
use Rattle.bst_lex.specs.declared.lexeme.Shape.TheVariants.{OpenBrace, CloseBrace, Integer, Text, Quoted, Name}
use Rattle.bv_base.specs.Places.{along}
use Rattle.bv_base.specs.Runs.{ends_digits, length_before, number_from}

-- white space, `{`, `}` and `%` end a run
abbrev pub ends_run : ℕ → Bool
ends_run b = is_white b || is_among (codes "{}%") b

-- below 32 or 127, and no white space
abbrev pub is_control : ℕ → Bool
is_control b = (nat_lt b 32 || nat_eq b 127) && not (is_white b)

-- what ends the part of a run without control bytes
abbrev pub ends_clean : ℕ → Bool
ends_clean b = ends_run b || is_control b

-- `"` and the line's end
abbrev pub ends_inside : ℕ → Bool
ends_inside b = is_among (34 ∷ 10 ∷ []) b

-- the first byte passes a test
abbrev pub first_is : (ℕ → Bool) → List ℕ → Bool
first_is test [] = false
first_is test (b ∷ _) = test b

-- how many bytes of a comment stand before its line's end
abbrev pub comment_length : List ℕ → ℕ
comment_length bytes = length_before (λ b. nat_eq b 10) bytes

-- how many bytes the white space or the comment has that begins here; 0 where neither begins
abbrev pub gap_at : List ℕ → ℕ
gap_at [] = 0
gap_at (b ∷ bytes) = if is_white b then 1 else if nat_eq b 37 then suc (comment_length bytes) else 0

-- how many bytes of white space and comments stand first, where a comment may have begun before
abbrev pub gap_length : Bool → List ℕ → ℕ
gap_length in_comment [] = 0
gap_length true (b ∷ bytes) = suc (gap_length (not (nat_eq b 10)) bytes)
gap_length false (b ∷ bytes) =
    if is_white b then suc (gap_length false bytes)
    else if nat_eq b 37 then suc (gap_length true bytes)
    else 0

-- what may follow an integer or a text: white space, `}`, `%` or the end
abbrev pub may_follow : List ℕ → Bool
may_follow [] = true
may_follow (b ∷ _) = is_white b || is_among (codes "}%") b

-- a piece that ends where something follows that may
abbrev pub followed : Place → Piece → List ℕ → Result Piece LexFault
followed place piece after =
    if may_follow after then Ok piece else Err (StuffAfterToken (along place piece.length))

-- the integer of a sign and a number, where the sign is a `-` or none
abbrev pub signed : Bool → ℕ → ℤ
signed true (suc n) = negsuc n
signed true zero = pos 0
signed false n = pos n

-- an integer has 32 bits
abbrev pub ranged : Place → ℕ → Bool → ℕ → Result Piece LexFault
ranged place length minus n =
    if nat_le n (if minus then suc GREATEST_INTEGER else GREATEST_INTEGER)
    then Ok (record { length = length; shape = Integer (signed minus n) })
    else Err (IntegerRange place)

-- an integer's digits, after the bytes that stand before them, and what follows the digits
abbrev pub digits_at : Place → ℕ → Bool → List ℕ → Result Piece LexFault
digits_at place before minus bytes =
    let count = length_before ends_digits bytes in
    if nat_eq count 0 then Err (BadInteger place)
    else if may_follow (drop count bytes)
    then ranged place (before + count) minus (number_from 0 (take count bytes))
    else Err (StuffAfterToken (along place (before + count)))

-- an integer is `#`, an optional `-` and digits
abbrev pub integer_at : Place → List ℕ → Result Piece LexFault
integer_at place after =
    if first_is (nat_eq 45) after then digits_at place 2 true (drop 1 after) else digits_at place 1 false after

-- a text is `"`, bytes other than `"` and the line's end, and `"`
abbrev pub text_at : Place → List ℕ → Result Piece LexFault
text_at place after =
    let inside = length_before ends_inside after in
    if first_is (nat_eq 34) (drop inside after)
    then followed place (record { length = inside + 2; shape = Text }) (drop 1 (drop inside after))
    else Err (NoEndQuote place)

-- a run, with the mark before it, reaches up to the first byte that ends a run
abbrev pub run_at : Place → Shape → List ℕ → Result Piece LexFault
run_at place shape bytes =
    let clean = length_before ends_clean bytes in
    if first_is is_control (drop clean bytes) then Err (IllegalByte (along place clean))
    else Ok (record { length = clean; shape = shape })

-- the lexeme that begins here, or what is wrong with it
abbrev pub piece_at : Place → List ℕ → Result Piece LexFault
piece_at place bytes =
    if first_is (nat_eq 123) bytes then Ok (record { length = 1; shape = OpenBrace })
    else if first_is (nat_eq 125) bytes then Ok (record { length = 1; shape = CloseBrace })
    else if first_is (nat_eq 35) bytes then integer_at place (drop 1 bytes)
    else if first_is (nat_eq 34) bytes then text_at place (drop 1 bytes)
    else if first_is (nat_eq 39) bytes then run_at place Quoted bytes
    else run_at place Name bytes
