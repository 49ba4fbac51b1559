-- What the grammar spells is what the definition reads.
use Rattle.std.proofs.Common.{◌≡◌, ℕ, suc, ◌+◌, ◌<◌, ◌≤◌, ◌||◌, ◌&&◌, Bool, true, false, cond, nat_eq, nat_le, not, List, [], ◌∷◌, ◌++◌, length, take, drop, Result, Ok, Err, Option, Some, None, refl, sym, ap, ◌∙◌, subst, inl, inr, arith, eqb-true}
use Rattle.std.proofs.lemmas.Bool.{le-leb, and_parts, cond-true, cond-false, not-true}
use Rattle.std.proofs.lemmas.Bool.Decides.{nat_tests}
use Rattle.std.proofs.lemmas.List.{length-append, append_assoc, append-nil}
use Rattle.std.proofs.Math.Seq.{take-append_seam, drop-append_seam}
use Rattle.bv_base.specs.Bytes.{is_white}
use Rattle.bv_base.specs.declared.place.Place.{Place}
use Rattle.bst_lex.specs.declared.lexeme.LexFault.{LexFault}
use Rattle.bst_lex.specs.declared.lexeme.LexFault.TheVariants.{NoEndQuote, BadInteger, StuffAfterToken, IllegalByte, IntegerRange}
use Rattle.bst_lex.specs.declared.lexeme.Piece.{Piece}
use Rattle.bst_lex.specs.declared.lexeme.Shape.{Shape}
use Rattle.bst_lex.specs.declared.lexeme.Shape.TheVariants.{OpenBrace, CloseBrace, Integer, Text, Quoted, Name}
use Rattle.bst_lex.specs.Grammar.{is_line_end, Space, White, Comment, spaces, IsGap, sign, greatest, begins_run, IsLexeme, IsFault, Spells}
use Rattle.bst_lex.specs.Lexemes.{Seen, before, begun, lexed_after}
use Rattle.bv_base.specs.Runs.{ends_digits, number_from, NoneOf, EndsBy}
use Rattle.bst_lex.specs.Pieces.{comment_length, digits_at, ends_clean, ends_inside, ends_run, first_is, gap_at, integer_at, is_control, may_follow, piece_at, ranged, run_at, signed, text_at, followed}
use Rattle.bv_base.specs.Places.{after_byte, after_bytes, along}
use Rattle.bst_lex.proofs.Passing.{lexed_passed, piece_passed, fault_first}
use Rattle.bv_base.proofs.RunLemmas.{length_before_is}

pub after_append : (first second : List ℕ) (place : Place)
    → after_bytes (first ++ second) place ≡ after_bytes second (after_bytes first place)
after_append [] second place = refl
after_append (b ∷ first) second place = after_append first second (after_byte b place)

-- a comment is passed over
comment_read : (start : ℕ) (place : Place) (inside bytes : List ℕ) → NoneOf is_line_end inside → EndsBy is_line_end bytes
    → lexed_after (comment_length (inside ++ bytes)) start place (inside ++ bytes)
    ≡ lexed_after 0 (start + length inside) (after_bytes inside place) bytes
comment_read start place inside bytes plain ends =
    let all : List ℕ = inside ++ bytes in
    let within : length inside ≤ length all = simp length-append (omega arith) in
    ap (λ n. lexed_after n start place all) (length_before_is is_line_end inside bytes plain ends)
    ∙ lexed_passed (length inside) start place all within
    ∙ ap (λ xs. lexed_after 0 (start + length inside) (after_bytes xs place) (drop (length inside) all)) (take-append_seam inside bytes)
    ∙ ap (λ xs. lexed_after 0 (start + length inside) (after_bytes inside place) xs) (drop-append_seam inside bytes)

-- a gap is read as a gap
gap_read : (start : ℕ) (place : Place) (gap : List Space) (rest : List ℕ) → IsGap gap rest
    → lexed_after 0 start place (spaces gap ++ rest)
    ≡ lexed_after 0 (start + length (spaces gap)) (after_bytes (spaces gap) place) rest
gap_read start place [] rest rule = ap (λ n. lexed_after 0 n place rest) (omega arith)
gap_read start place (White b ∷ gap) rest (white, rule) =
    let bytes : List ℕ = spaces gap ++ rest in
    ap (λ w. begun (cond w 1 (cond (nat_eq b 37) (suc (comment_length bytes)) 0)) (piece_at place (b ∷ bytes)) start place
    (b ∷ bytes) (λ pass. lexed_after pass (start + 1) (after_byte b place) bytes)) white
    ∙ gap_read (start + 1) (after_byte b place) gap rest rule
    ∙ ap (λ n. lexed_after 0 n (after_bytes (spaces gap) (after_byte b place)) rest) (omega arith)
gap_read start place (Comment inside ∷ gap) rest (plain, ends, rule) =
    let p : Place = after_byte 37 place in
    let more : List ℕ = spaces gap ++ rest in
    let count : start + 1 + length inside + length (spaces gap) ≡ start + suc (length (inside ++ spaces gap)) =
    simp length-append (omega arith) in
    ap (λ xs. lexed_after (comment_length xs) (start + 1) p xs) (append_assoc inside (spaces gap) rest)
    ∙ comment_read (start + 1) p inside more plain ends
    ∙ gap_read (start + 1 + length inside) (after_bytes inside p) gap rest rule
    ∙ ap (λ n. lexed_after 0 n (after_bytes (spaces gap) (after_bytes inside p)) rest) count
    ∙ ap (λ q. lexed_after 0 (start + suc (length (inside ++ spaces gap))) q rest) (sym (after_append inside (spaces gap) p))

or_false : (x y : Bool) → (x || y) ≡ false → (x ≡ false) × (y ≡ false)
or_false true y e = cc
or_false false y e = (refl, e)

or_right : (x y : Bool) → y ≡ true → (x || y) ≡ true
or_right true y e = refl
or_right false y e = e

or_first : (x y : Bool) → x ≡ true → (x || y) ≡ true
or_first true y e = refl
or_first false y e = cc

eq_swap : (a b : ℕ) → nat_eq a b ≡ false → nat_eq b a ≡ false
eq_swap a b e = grind (arith, nat_tests)

-- what may follow an integer is no digit
follow_ends : (rest : List ℕ) → may_follow rest ≡ true → EndsBy ends_digits rest
follow_ends [] e = tt
follow_ends (b ∷ rest) e = grind (arith, nat_tests)

no_sign : (d : ℕ) → ends_digits d ≡ false → nat_eq 45 d ≡ false
no_sign d e = grind (arith, nat_tests)

-- the bytes that end a run are no control bytes
end_plain : (rest : List ℕ) → EndsBy ends_run rest → first_is is_control rest ≡ false
end_plain [] e = refl
end_plain (b ∷ rest) e = grind (arith, nat_tests)

control_runs : (b : ℕ) → is_control b ≡ true → ends_run b ≡ false
control_runs b e = grind (arith, nat_tests)

-- some bytes begin with a lexeme or a fault, and with no gap
record Begins (place : Place) (bytes : List ℕ) (r : Result Piece LexFault) : Type 0 where
  piece_is : piece_at place bytes ≡ r
  gap_is : gap_at bytes ≡ 0
  some : 0 < length bytes

-- `#`, a sign, and the bytes after them
abbrev after_sign : Bool → List ℕ → List ℕ
after_sign minus bytes = 35 ∷ (sign minus ++ bytes)

-- digits with their end
digits_read : (place : Place) (before : ℕ) (minus : Bool) (digits rest : List ℕ)
    → NoneOf ends_digits digits → EndsBy ends_digits rest → 0 < length digits
    → digits_at place before minus (digits ++ rest)
    ≡ cond (may_follow rest) (ranged place (before + length digits) minus (number_from 0 digits))
    (Err (StuffAfterToken (along place (before + length digits))))
digits_read place before minus digits rest none ends some =
    let all : List ℕ = digits ++ rest in
    let some_is : nat_eq (length digits) 0 ≡ false = grind (arith, nat_tests) in
    ap (λ n. cond (nat_eq n 0) (Err (BadInteger place))
    (cond (may_follow (drop n all)) (ranged place (before + n) minus (number_from 0 (take n all)))
    (Err (StuffAfterToken (along place (before + n))))))
    (length_before_is ends_digits digits rest none ends)
    ∙ cond-false (nat_eq (length digits) 0) _ _ some_is
    ∙ ap (λ xs. cond (may_follow xs) (ranged place (before + length digits) minus (number_from 0 (take (length digits) all)))
    (Err (StuffAfterToken (along place (before + length digits))))) (drop-append_seam digits rest)
    ∙ ap (λ xs. cond (may_follow rest) (ranged place (before + length digits) minus (number_from 0 xs))
    (Err (StuffAfterToken (along place (before + length digits))))) (take-append_seam digits rest)

integer_read : (place : Place) (minus : Bool) (digits rest : List ℕ)
    → NoneOf ends_digits digits → EndsBy ends_digits rest → 0 < length digits
    → integer_at place (sign minus ++ digits ++ rest)
    ≡ cond (may_follow rest) (ranged place (length (after_sign minus digits)) minus (number_from 0 digits))
    (Err (StuffAfterToken (along place (length (after_sign minus digits)))))
integer_read place true digits rest none ends some =
    digits_read place 2 true digits rest none ends some
    ∙ ap (λ n. cond (may_follow rest) (ranged place n true (number_from 0 digits)) (Err (StuffAfterToken (along place n))))
    {x = 2 + length digits} {y = suc (suc (length digits))} (omega arith)
integer_read place false [] rest none ends some = absurd (omega arith)
integer_read place false (d ∷ digits) rest none ends some =
    cond-false (nat_eq 45 d) _ _ (no_sign d none.0)
    ∙ digits_read place 1 false (d ∷ digits) rest none ends some
    ∙ ap (λ n. cond (may_follow rest) (ranged place n false (number_from 0 (d ∷ digits))) (Err (StuffAfterToken (along place n))))
    {x = 1 + length (d ∷ digits)} {y = suc (length (d ∷ digits))} (omega arith)

text_read : (place : Place) (inside rest : List ℕ) → NoneOf ends_inside inside
    → text_at place ((inside ++ 34 ∷ []) ++ rest)
    ≡ followed place (record { length = length (34 ∷ (inside ++ 34 ∷ [])); shape = Text }) rest
text_read place inside rest none =
    let all : List ℕ = inside ++ 34 ∷ rest in
    let count : length inside + 2 ≡ length (34 ∷ (inside ++ 34 ∷ [])) = simp length-append (omega arith) in
    ap (text_at place) (append_assoc inside (34 ∷ []) rest)
    ∙ ap (λ n. cond (first_is (nat_eq 34) (drop n all)) (followed place (record { length = n + 2; shape = Text }) (drop 1 (drop n all)))
    (Err (NoEndQuote place))) (length_before_is ends_inside inside (34 ∷ rest) none refl)
    ∙ ap (λ xs. cond (first_is (nat_eq 34) xs) (followed place (record { length = length inside + 2; shape = Text }) (drop 1 xs))
    (Err (NoEndQuote place))) (drop-append_seam inside (34 ∷ rest))
    ∙ ap (λ n. followed place (record { length = n; shape = Text }) rest) count

line_inside : (rest : List ℕ) → EndsBy is_line_end rest → EndsBy ends_inside rest × (first_is (nat_eq 34) rest ≡ false)
line_inside [] e = (tt, refl)
line_inside (b ∷ rest) e = (or_right (nat_eq b 34) _ (or_first (nat_eq b 10) false e), no_quote b e)
  where
    no_quote : (b : ℕ) → nat_eq b 10 ≡ true → nat_eq 34 b ≡ false
    no_quote b e = grind (arith, nat_tests)

open_read : (place : Place) (inside rest : List ℕ) → NoneOf ends_inside inside → EndsBy is_line_end rest
    → text_at place (inside ++ rest) ≡ Err (NoEndQuote place)
open_read place inside rest none ends =
    let all : List ℕ = inside ++ rest in
    ap (λ n. cond (first_is (nat_eq 34) (drop n all)) (followed place (record { length = n + 2; shape = Text }) (drop 1 (drop n all)))
    (Err (NoEndQuote place))) (length_before_is ends_inside inside rest none (line_inside rest ends).0)
    ∙ ap (λ xs. cond (first_is (nat_eq 34) xs) (followed place (record { length = length inside + 2; shape = Text }) (drop 1 xs))
    (Err (NoEndQuote place))) (drop-append_seam inside rest)
    ∙ cond-false (first_is (nat_eq 34) rest) _ _ (line_inside rest ends).1

clean_ends : (rest : List ℕ) → EndsBy ends_run rest → EndsBy ends_clean rest
clean_ends [] e = tt
clean_ends (b ∷ rest) e = or_first (ends_run b) (is_control b) e

-- what decides about a run, when its clean part is known
clean_read : (place : Place) (shape : Shape) (run rest : List ℕ) → NoneOf ends_clean run → EndsBy ends_clean rest
    → run_at place shape (run ++ rest)
    ≡ cond (first_is is_control rest) (Err (IllegalByte (along place (length run)))) (Ok (record { length = length run; shape = shape }))
clean_read place shape run rest none ends =
    let all : List ℕ = run ++ rest in
    ap (λ n. cond (first_is is_control (drop n all)) (Err (IllegalByte (along place n))) (Ok (record { length = n; shape = shape })))
    (length_before_is ends_clean run rest none ends)
    ∙ ap (λ xs. cond (first_is is_control xs) (Err (IllegalByte (along place (length run)))) (Ok (record { length = length run; shape = shape })))
    (drop-append_seam run rest)

run_read : (place : Place) (shape : Shape) (run rest : List ℕ) → NoneOf ends_clean run → EndsBy ends_run rest
    → run_at place shape (run ++ rest) ≡ Ok (record { length = length run; shape = shape })
run_read place shape run rest none ends =
    clean_read place shape run rest none (clean_ends rest ends)
    ∙ cond-false (first_is is_control rest) _ _ (end_plain rest ends)

illegal_read : (place : Place) (shape : Shape) (run : List ℕ) (b : ℕ) (rest : List ℕ) → NoneOf ends_clean run → is_control b ≡ true
    → run_at place shape (run ++ b ∷ rest) ≡ Err (IllegalByte (along place (length run)))
illegal_read place shape run b rest none control =
    clean_read place shape run (b ∷ rest) none (or_right (ends_run b) (is_control b) control)
    ∙ cond-true (is_control b) _ _ control

-- a byte that begins a run begins nothing else
run_begins : (place : Place) (b : ℕ) (bytes : List ℕ) → ends_run b ≡ false → begins_run (b ∷ bytes) ≡ true
    → Begins place (b ∷ bytes) (cond (nat_eq 39 b) (run_at place Quoted (b ∷ bytes)) (run_at place Name (b ∷ bytes)))
run_begins place b bytes run begins =
    let white = or_false (is_white b) (nat_eq b 123 || (nat_eq b 125 || (nat_eq b 37 || false))) run in
    let opens = or_false (nat_eq b 123) (nat_eq b 125 || (nat_eq b 37 || false)) white.1 in
    let closes = or_false (nat_eq b 125) (nat_eq b 37 || false) opens.1 in
    let percent = or_false (nat_eq b 37) false closes.1 in
    let marks = and_parts (not (nat_eq 35 b)) (not (nat_eq 34 b)) begins in
    record {
      piece_is =
          cond-false (nat_eq 123 b) _ _ (eq_swap b 123 opens.0)
          ∙ cond-false (nat_eq 125 b) _ _ (eq_swap b 125 closes.0)
          ∙ cond-false (nat_eq 35 b) _ _ (not-true (nat_eq 35 b) marks.0)
          ∙ cond-false (nat_eq 34 b) _ _ (not-true (nat_eq 34 b) marks.1);
      gap_is = cond-false (is_white b) _ _ white.0 ∙ cond-false (nat_eq b 37) _ _ percent.0;
      some = omega arith;
    }

-- the number of an integer decides whether it is in range
ranged_read : (place : Place) (length : ℕ) (minus : Bool) (n : ℕ) → n ≤ greatest minus
    → ranged place length minus n ≡ Ok (record { length = length; shape = Integer (signed minus n) })
ranged_read place length minus n h = cond-true (nat_le n (greatest minus)) _ _ (le-leb n (greatest minus) h)

range_read : (place : Place) (length : ℕ) (minus : Bool) (n : ℕ) → greatest minus < n
    → ranged place length minus n ≡ Err (IntegerRange place)
range_read place length minus n h =
    let large : nat_le n (greatest minus) ≡ false = grind (arith, nat_tests) in
    cond-false (nat_le n (greatest minus)) _ _ large

lexeme_read : (place : Place) (shape : Shape) (text rest : List ℕ) → IsLexeme shape text rest
    → Begins place (text ++ rest) (Ok (record { length = length text; shape = shape }))
lexeme_read place OpenBrace text rest is =
    subst (λ t. Begins place (t ++ rest) (Ok (record { length = length t; shape = OpenBrace }))) (sym is)
    (record { piece_is = refl; gap_is = refl; some = omega arith })
lexeme_read place CloseBrace text rest is =
    subst (λ t. Begins place (t ++ rest) (Ok (record { length = length t; shape = CloseBrace }))) (sym is)
    (record { piece_is = refl; gap_is = refl; some = omega arith })
lexeme_read place (Integer n) text rest (minus, digits, is, small, value, follows) =
    subst (λ t. Begins place (t ++ rest) (Ok (record { length = length t; shape = Integer n }))) (sym is.spelled)
    (record {
      piece_is =
          integer_read place minus digits rest is.digits_only (follow_ends rest follows) is.some
          ∙ cond-true (may_follow rest) _ _ follows
          ∙ ranged_read place (length (after_sign minus digits)) minus (number_from 0 digits) small
          ∙ ap (λ m. Ok (record { length = length (after_sign minus digits); shape = Integer m })) (sym value);
      gap_is = refl;
      some = omega arith;
    })
lexeme_read place Text text rest (inside, is, follows) =
    subst (λ t. Begins place (t ++ rest) (Ok (record { length = length t; shape = Text }))) (sym is.spelled)
    (record {
      piece_is =
          text_read place inside rest is.plain ∙ cond-true (may_follow rest) _ _ follows;
      gap_is = refl;
      some = omega arith;
    })
lexeme_read place Quoted [] rest (quote, none, ends) = cc
lexeme_read place Quoted (b ∷ text) rest (quote, none, ends) =
    let mark : (not (nat_eq 35 b) && not (nat_eq 34 b)) ≡ true =
    subst (λ x. (not (nat_eq 35 x) && not (nat_eq 34 x)) ≡ true) (eqb-true 39 b quote) refl in
    let h = run_begins place b (text ++ rest) (or_false (ends_run b) (is_control b) none.0).0 mark in
    record {
      piece_is = h.piece_is ∙ cond-true (nat_eq 39 b) _ _ quote ∙ run_read place Quoted (b ∷ text) rest none ends;
      gap_is = h.gap_is;
      some = omega arith;
    }
lexeme_read place Name [] rest (some, quote, begins, none, ends) = absurd (omega arith)
lexeme_read place Name (b ∷ text) rest (some, quote, begins, none, ends) =
    let h = run_begins place b (text ++ rest) (or_false (ends_run b) (is_control b) none.0).0 begins in
    record {
      piece_is = h.piece_is ∙ cond-false (nat_eq 39 b) _ _ quote ∙ run_read place Name (b ∷ text) rest none ends;
      gap_is = h.gap_is;
      some = omega arith;
    }

pub lexeme_some : (shape : Shape) (text rest : List ℕ) → IsLexeme shape text rest → 0 < length text
lexeme_some OpenBrace text rest is = subst (λ t. 0 < length t) (sym is) (omega arith)
lexeme_some CloseBrace text rest is = subst (λ t. 0 < length t) (sym is) (omega arith)
lexeme_some (Integer n) text rest (minus, digits, is, small, value, follows) =
    subst (λ t. 0 < length t) (sym is.spelled) (omega arith)
lexeme_some Text text rest (inside, is, follows) = subst (λ t. 0 < length t) (sym is.spelled) (omega arith)
lexeme_some Quoted [] rest (quote, none, ends) = cc
lexeme_some Quoted (b ∷ text) rest (quote, none, ends) = omega arith
lexeme_some Name text rest (some, quote, begins, none, ends) = some

no_digits : (place : Place) (before : ℕ) (minus : Bool) (rest : List ℕ) → EndsBy ends_digits rest
    → digits_at place before minus rest ≡ Err (BadInteger place)
no_digits place before minus rest ends =
    ap (λ n. cond (nat_eq n 0) (Err (BadInteger place))
    (cond (may_follow (drop n rest)) (ranged place (before + n) minus (number_from 0 (take n rest)))
    (Err (StuffAfterToken (along place (before + n))))))
    (length_before_is ends_digits [] rest tt ends)

bad_read : (place : Place) (minus : Bool) (rest : List ℕ) → first_is (nat_eq 45) (sign minus ++ rest) ≡ minus
    → EndsBy ends_digits rest → integer_at place (sign minus ++ rest) ≡ Err (BadInteger place)
bad_read place true rest e ends = no_digits place 2 true rest ends
bad_read place false rest e ends = cond-false (first_is (nat_eq 45) rest) _ _ e ∙ no_digits place 1 false rest ends

illegal_first : (place : Place) (b : ℕ) (bytes : List ℕ) (fault : LexFault) → ends_run b ≡ false → begins_run (b ∷ bytes) ≡ true
    → ((shape : Shape) → run_at place shape (b ∷ bytes) ≡ Err fault) → Begins place (b ∷ bytes) (Err fault)
illegal_first place b bytes fault run begins err =
    let h = run_begins place b bytes run begins in
    record {
      piece_is = h.piece_is
          ∙ elim (nat_eq 39 b) as (λ v. cond v (run_at place Quoted (b ∷ bytes)) (run_at place Name (b ∷ bytes)) ≡ Err fault)
          [ true ↦ err Quoted | false ↦ err Name ];
      gap_is = h.gap_is;
      some = omega arith;
    }

illegal_found : (place : Place) (run : List ℕ) (b : ℕ) (rest : List ℕ) → begins_run (run ++ b ∷ rest) ≡ true
    → NoneOf ends_clean run → is_control b ≡ true
    → Begins place (run ++ b ∷ rest) (Err (IllegalByte (along place (length run))))
illegal_found place [] b rest begins none control =
    illegal_first place b rest _ (control_runs b control) begins (λ shape. illegal_read place shape [] b rest none control)
illegal_found place (c ∷ run) b rest begins none control =
    illegal_first place c (run ++ b ∷ rest) _ (or_false (ends_run c) (is_control c) none.0).0 begins
    (λ shape. illegal_read place shape (c ∷ run) b rest none control)

-- what holds of equal bytes and of an equal fault
along_both : (place : Place) (bytes other : List ℕ) (fault same : LexFault) → bytes ≡ other → fault ≡ same
    → Begins place other (Err same) → Begins place bytes (Err fault)
along_both place bytes other fault same e f h =
    subst (λ xs. Begins place xs (Err fault)) (sym e) (subst (λ x. Begins place other (Err x)) (sym f) h)

fault_read : (place : Place) (bytes : List ℕ) (fault : LexFault) → IsFault place bytes fault → Begins place bytes (Err fault)
fault_read place bytes (NoEndQuote at) (at_is, inside, rest, is, none, ends) =
    along_both place bytes (34 ∷ (inside ++ rest)) _ (NoEndQuote place) is (ap NoEndQuote at_is)
    (record { piece_is = open_read place inside rest none ends; gap_is = refl; some = omega arith })
fault_read place bytes (BadInteger at) (at_is, minus, rest, is, sign_is, ends) =
    along_both place bytes (35 ∷ (sign minus ++ rest)) _ (BadInteger place) is (ap BadInteger at_is)
    (record {
      piece_is = bad_read place minus rest (subst (λ xs. first_is (nat_eq 45) (drop 1 xs) ≡ minus) is sign_is) ends;
      gap_is = refl;
      some = omega arith;
    })
fault_read place bytes (StuffAfterToken at) (text, rest, is, at_is, stuff, inl (minus, digits, integer, ends)) =
    along_both place bytes (after_sign minus digits ++ rest) _ (StuffAfterToken (along place (length (after_sign minus digits))))
    (is ∙ ap (λ t. t ++ rest) integer.spelled)
    (ap StuffAfterToken (at_is ∙ ap (λ t. along place (length t)) integer.spelled))
    (record {
      piece_is = integer_read place minus digits rest integer.digits_only ends integer.some ∙ cond-false (may_follow rest) _ _ stuff;
      gap_is = refl;
      some = omega arith;
    })
fault_read place bytes (StuffAfterToken at) (text, rest, is, at_is, stuff, inr (inside, text_is)) =
    let all : List ℕ = 34 ∷ (inside ++ 34 ∷ []) in
    along_both place bytes (all ++ rest) _ (StuffAfterToken (along place (length all)))
    (is ∙ ap (λ t. t ++ rest) text_is.spelled)
    (ap StuffAfterToken (at_is ∙ ap (λ t. along place (length t)) text_is.spelled))
    (record {
      piece_is =
          text_read place inside rest text_is.plain ∙ cond-false (may_follow rest) _ _ stuff;
      gap_is = refl;
      some = omega arith;
    })
fault_read place bytes (IllegalByte at) (run, b, rest, is, at_is, begins, none, control) =
    along_both place bytes (run ++ b ∷ rest) _ (IllegalByte (along place (length run))) is (ap IllegalByte at_is)
    (illegal_found place run b rest (subst (λ xs. begins_run xs ≡ true) is begins) none control)
fault_read place bytes (IntegerRange at) (at_is, minus, digits, text, rest, is, integer, large, follows) =
    along_both place bytes (after_sign minus digits ++ rest) _ (IntegerRange place)
    (is ∙ ap (λ t. t ++ rest) integer.spelled) (ap IntegerRange at_is)
    (record {
      piece_is =
          integer_read place minus digits rest integer.digits_only (follow_ends rest follows) integer.some
          ∙ cond-true (may_follow rest) _ _ follows
          ∙ range_read place (length (after_sign minus digits)) minus (number_from 0 digits) large;
      gap_is = refl;
      some = omega arith;
    })

pub read : (start : ℕ) (place : Place) (bytes : List ℕ) (lexemes : List Seen) (fault : Option LexFault)
    → Spells start place bytes lexemes fault
    → lexed_after 0 start place bytes ≡ record { lexemes = lexemes; fault = fault }
read start place bytes [] None (gap, is, rule) =
    ap (lexed_after 0 start place) (is ∙ sym (append-nil (spaces gap))) ∙ gap_read start place gap [] rule
read start place bytes [] (Some fault) (gap, rest, is, rule, found) =
    let h = fault_read (after_bytes (spaces gap) place) rest fault found in
    ap (lexed_after 0 start place) is
    ∙ gap_read start place gap rest rule
    ∙ fault_first (start + length (spaces gap)) (after_bytes (spaces gap) place) rest fault h.gap_is h.piece_is h.some
read start place bytes (lexeme ∷ lexemes) fault (gap, rest, is, rule, start_is, place_is, lexeme_is, more) =
    let text : List ℕ = lexeme.text in
    let all : List ℕ = text ++ rest in
    let piece : Piece = record { length = length text; shape = lexeme.shape } in
    let h = lexeme_read lexeme.place lexeme.shape text rest lexeme_is in
    let within : length text ≤ length all = simp length-append (omega arith) in
    ap (lexed_after 0 start place) is
    ∙ gap_read start place gap all rule
    ∙ ap (λ n. lexed_after 0 n (after_bytes (spaces gap) place) all) (sym start_is)
    ∙ ap (λ p. lexed_after 0 lexeme.start p all) (sym place_is)
    ∙ piece_passed lexeme.start lexeme.place all piece h.gap_is h.piece_is (lexeme_some lexeme.shape text rest lexeme_is) within
    ∙ ap (λ t. before (record { text = t; start = lexeme.start; place = lexeme.place; shape = lexeme.shape })
    (lexed_after 0 (lexeme.start + length text) (after_bytes t lexeme.place) (drop (length text) all))) (take-append_seam text rest)
    ∙ ap (λ xs. before lexeme (lexed_after 0 (lexeme.start + length text) (after_bytes text lexeme.place) xs)) (drop-append_seam text rest)
    ∙ ap (before lexeme) (read (lexeme.start + length text) (after_bytes text lexeme.place) rest lexemes fault more)
