-- What places count, and where faults stand.
use Rattle.std.proofs.Common.{◌≡◌, ℕ, suc, ◌+◌, ◌-◌, ◌≤◌, Bool, true, false, cond, nat_eq, List, [], ◌∷◌, ◌++◌, length, take, drop, Option, Some, None, IfSome, refl, sym, ap, ◌∙◌, subst, inl, inr, arith}
use Rattle.std.proofs.lemmas.Bool.Decides.{nat_tests}
use Rattle.std.proofs.lemmas.List.{length-drop, length-append}
use Rattle.bv_base.specs.declared.place.Place.{Place}
use Rattle.bst_lex.specs.declared.lexeme.LexFault.{LexFault}
use Rattle.bst_lex.specs.declared.lexeme.LexFault.TheVariants.{NoEndQuote, BadInteger, StuffAfterToken, IllegalByte, IntegerRange}
use Rattle.bst_lex.specs.Grammar.{IsFault, IsInteger, IsText, Spells, is_line_end, spaces}
use Rattle.bst_lex.specs.Lexemes.{Seen}
use Rattle.bv_base.specs.Runs.{ends_digits, NoneOf}
use Rattle.bst_lex.specs.Pieces.{ends_clean, ends_inside}
use Rattle.bst_lex.specs.Fault.{place_of}
use Rattle.bst_lex.specs.PlaceLaws.{BeginsLine, line_ends}
use Rattle.bv_base.specs.Places.{after_byte, after_bytes, along, first_place, place_at, StandsIn}
use Rattle.bst_lex.proofs.Ordering.{left_after, place_after}
use Rattle.bv_base.proofs.RunLemmas.{none_joined}
use Rattle.bst_lex.proofs.Reading.{after_append}

-- the place after a byte, when it is known whether that is a line end
abbrev next : Bool → Place → Place
next end place =
    cond {A = Place} end (record { line = place.line + 1; column = 1 }) (record { line = place.line; column = place.column + 1 })

line_case : (end : Bool) (count : ℕ) (place : Place) (bytes : List ℕ)
    → (after_bytes bytes (next end place)).line ≡ (next end place).line + count
    → (after_bytes bytes (next end place)).line ≡ place.line + cond end (suc count) count
line_case true count place bytes e = e ∙ (omega arith)
line_case false count place bytes e = e

lines_after : (bytes : List ℕ) (place : Place) → (after_bytes bytes place).line ≡ place.line + line_ends bytes
lines_after [] place = omega arith
lines_after (b ∷ bytes) place = line_case (nat_eq b 10) (line_ends bytes) place bytes (lines_after bytes (after_byte b place))

-- within a line places go along it
pub along_line : (bytes : List ℕ) (place : Place) → NoneOf is_line_end bytes → after_bytes bytes place ≡ along place (length bytes)
along_line [] place none = ap (λ n. record { line = place.line; column = n }) {x = place.column} {y = place.column + 0} (omega arith)
along_line (b ∷ bytes) place (here, none) =
    ap (λ v. after_bytes bytes (next v place)) here
    ∙ along_line bytes (next false place) none
    ∙ ap (λ n. record { line = place.line; column = n })
    {x = place.column + 1 + length bytes} {y = place.column + suc (length bytes)} (omega arith)

-- after a line end the column is 1
line_begins : (b : ℕ) (bytes : List ℕ) (place : Place) → BeginsLine (b ∷ bytes) → (after_bytes (b ∷ bytes) place).column ≡ 1
line_begins b [] place h = ap (λ v. (next v place).column) h
line_begins b (c ∷ bytes) place h = line_begins c bytes (after_byte b place) h

column_begins : (front : List ℕ) → BeginsLine front → (after_bytes front first_place).column ≡ 1
column_begins [] h = refl
column_begins (b ∷ front) h = line_begins b front first_place h

pub lines_counted : (source : List ℕ) (at : ℕ) → (place_at source at).line ≡ 1 + line_ends (take at source)
lines_counted source at = lines_after (take at source) first_place

pub columns_counted : (source : List ℕ) (at : ℕ) (front line : List ℕ) → take at source ≡ front ++ line
    → BeginsLine front → NoneOf is_line_end line → (place_at source at).column ≡ 1 + length line
columns_counted source at front line e begins none =
    ap (λ bytes. (after_bytes bytes first_place).column) e
    ∙ ap (λ (p : Place). p.column) (after_append front line first_place ∙ along_line line (after_bytes front first_place) none)
    ∙ ap (λ n. n + length line) (column_begins front begins)

-- what ends digits, the inside of a text or a clean run passes every line end
pub none_weaker : (test other : ℕ → Bool) (bytes : List ℕ) → ((b : ℕ) → test b ≡ false → other b ≡ false)
    → NoneOf test bytes → NoneOf other bytes
none_weaker test other [] h none = tt
none_weaker test other (b ∷ bytes) h (here, none) = (h b here, none_weaker test other bytes h none)

digit_plain : (b : ℕ) → ends_digits b ≡ false → is_line_end b ≡ false
digit_plain b e = grind (arith, nat_tests)

inside_plain : (b : ℕ) → ends_inside b ≡ false → is_line_end b ≡ false
inside_plain b e = grind (arith, nat_tests)

pub clean_plain : (b : ℕ) → ends_clean b ≡ false → is_line_end b ≡ false
clean_plain b e = grind (arith, nat_tests)

integer_plain : (minus : Bool) (digits text : List ℕ) → IsInteger minus digits text → NoneOf is_line_end text
integer_plain true digits text h =
    subst (NoneOf is_line_end) (sym h.spelled) (refl, (refl, none_weaker ends_digits is_line_end digits digit_plain h.digits_only))
integer_plain false digits text h =
    subst (NoneOf is_line_end) (sym h.spelled) (refl, none_weaker ends_digits is_line_end digits digit_plain h.digits_only)

text_plain : (inside text : List ℕ) → IsText inside text → NoneOf is_line_end text
text_plain inside text h =
    subst (NoneOf is_line_end) (sym h.spelled)
    (refl, none_joined is_line_end inside (34 ∷ []) (none_weaker ends_inside is_line_end inside inside_plain h.plain) (refl, tt))

-- a fault that stands some bytes further on in its line
further : (source : List ℕ) (start : ℕ) (place : Place) (bytes front rest : List ℕ) (at : Place)
    → place ≡ place_at source start → drop start source ≡ bytes → start ≤ length source
    → bytes ≡ front ++ rest → NoneOf is_line_end front → at ≡ along place (length front)
    → StandsIn source at
further source start place bytes front rest at p d h is none at_is =
    let left : length (drop start source) ≡ length source - start = length-drop start source in
    let whole : length (drop start source) ≡ length front + length rest = ap length (d ∙ is) ∙ length-append front rest in (
      start + length front,
      omega arith,
      at_is ∙ sym (along_line front place none) ∙ ap (after_bytes front) p ∙ place_after source start front rest (d ∙ is),
    )

fault_stands : (source : List ℕ) (start : ℕ) (place : Place) (bytes : List ℕ) (fault : LexFault)
    → place ≡ place_at source start → drop start source ≡ bytes → start ≤ length source
    → IsFault place bytes fault → StandsIn source (place_of fault)
fault_stands source start place bytes (NoEndQuote at) p d h (at_is, inside, rest, is, none, ends) = (start, h, at_is ∙ p)
fault_stands source start place bytes (BadInteger at) p d h (at_is, minus, rest, is, sign_is, ends) = (start, h, at_is ∙ p)
fault_stands source start place bytes (StuffAfterToken at) p d h (text, rest, is, at_is, stuff, inl (minus, digits, integer, ends)) =
    further source start place bytes text rest at p d h is (integer_plain minus digits text integer) at_is
fault_stands source start place bytes (StuffAfterToken at) p d h (text, rest, is, at_is, stuff, inr (inside, text_is)) =
    further source start place bytes text rest at p d h is (text_plain inside text text_is) at_is
fault_stands source start place bytes (IllegalByte at) p d h (run, b, rest, is, at_is, begins, none, control) =
    further source start place bytes run (b ∷ rest) at p d h is (none_weaker ends_clean is_line_end run clean_plain none) at_is
fault_stands source start place bytes (IntegerRange at) p d h (at_is, minus, digits, text, rest, is, integer, large, follows) = (start, h, at_is ∙ p)

-- as far as a front of what is left reaches
reached : (source : List ℕ) (start : ℕ) (front rest : List ℕ) → start ≤ length source → drop start source ≡ front ++ rest
    → start + length front ≤ length source
reached source start front rest h d =
    let left : length (drop start source) ≡ length source - start = length-drop start source in
    let whole : length (drop start source) ≡ length front + length rest = ap length d ∙ length-append front rest in
    omega arith

pub spelled_stands : (source : List ℕ) (start : ℕ) (place : Place) (bytes : List ℕ) (lexemes : List Seen) (fault : Option LexFault)
    → place ≡ place_at source start → drop start source ≡ bytes → start ≤ length source
    → Spells start place bytes lexemes fault → IfSome fault (λ f. StandsIn source (place_of f))
spelled_stands source start place bytes [] None p d h spells = tt
spelled_stands source start place bytes [] (Some fault) p d h (gap, rest, is, rule, found) =
    let here : drop start source ≡ spaces gap ++ rest = d ∙ is in
    fault_stands source (start + length (spaces gap)) (after_bytes (spaces gap) place) rest fault
    (ap (after_bytes (spaces gap)) p ∙ place_after source start (spaces gap) rest here)
    (left_after source start (spaces gap) rest here)
    (reached source start (spaces gap) rest h here)
    found
spelled_stands source start place bytes (lexeme ∷ lexemes) fault p d h (gap, rest, is, rule, start_is, place_is, lexeme_is, more) =
    let text : List ℕ = lexeme.text in
    let here : drop start source ≡ spaces gap ++ (text ++ rest) = d ∙ is in
    let there : drop lexeme.start source ≡ text ++ rest =
    ap (λ n. drop n source) start_is ∙ left_after source start (spaces gap) (text ++ rest) here in
    let within : lexeme.start ≤ length source =
    subst (λ n. n ≤ length source) (sym start_is) (reached source start (spaces gap) (text ++ rest) h here) in
    let place_here : lexeme.place ≡ place_at source lexeme.start =
    place_is ∙ ap (after_bytes (spaces gap)) p ∙ place_after source start (spaces gap) (text ++ rest) here
    ∙ ap (place_at source) (sym start_is) in
    spelled_stands source (lexeme.start + length text) (after_bytes text lexeme.place) rest lexemes fault
    (ap (after_bytes text) place_here ∙ place_after source lexeme.start text rest there)
    (left_after source lexeme.start text rest there)
    (reached source lexeme.start text rest within there)
    more
