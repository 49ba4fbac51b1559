-- What the definition reads is what the grammar spells.
use Rattle.std.proofs.Common.{◌≡◌, ℕ, zero, suc, ◌+◌, ◌-◌, ◌<◌, ◌≤◌, ◌||◌, ◌&&◌, Bool, true, false, cond, nat_eq, nat_le, not, min, List, [], ◌∷◌, ◌++◌, length, take, drop, Result, Ok, Err, MatchResult, refl, sym, ap, ◌∙◌, subst, inl, inr, arith, eqb-true}
use Rattle.std.proofs.lemmas.Bool.{eqb-false, leb-true, leb-false}
use Rattle.std.proofs.lemmas.Bool.Decides.{nat_tests}
use Rattle.std.proofs.lemmas.List.{take-append-drop, length-take, length-drop, length-append, append_assoc, append-nil}
use Rattle.bv_base.specs.Bytes.{is_white}
use Rattle.bv_base.specs.declared.place.Place.{Place}
use Rattle.bst_lex.specs.declared.lexeme.LexFault.{LexFault}
use Rattle.bst_lex.specs.declared.lexeme.LexFault.TheVariants.{NoEndQuote, IllegalByte}
use Rattle.bst_lex.specs.declared.lexeme.Piece.{Piece}
use Rattle.bst_lex.specs.declared.lexeme.Shape.TheVariants.{Text, Quoted, Name}
use Rattle.bst_lex.specs.Grammar.{is_line_end, Space, White, Comment, spaces, IsGap, sign, greatest, IsInteger, begins_run, IsLexeme, IsFault, Spells}
use Rattle.bst_lex.specs.Lexemes.{Lexed, lexed_after}
use Rattle.bv_base.specs.Runs.{ends_digits, length_before, number_from, NoneOf, EndsBy}
use Rattle.bst_lex.specs.Pieces.{digits_at, ends_clean, ends_inside, ends_run, first_is, gap_at, gap_length, integer_at, is_control, may_follow, piece_at, run_at, text_at, followed}
use Rattle.bv_base.specs.Places.{after_bytes, along}
use Rattle.bst_lex.proofs.Passing.{lexed_from, gap_passed, gap_stops, piece_passed, fault_first}
use Rattle.bst_lex.proofs.Reaching.{Reaches, length_before_within, piece_reaches, runs_on}
use Rattle.bv_base.proofs.RunLemmas.{none_before, ends_before}

-- a test decides which of two results is looked at
either : (P : Piece → Type 0) (Q : LexFault → Type 0) (test : Bool) (a b : Result Piece LexFault)
    → (test ≡ true → MatchResult a P Q) → (test ≡ false → MatchResult b P Q) → MatchResult (cond test a b) P Q
either P Q true a b f g = f refl
either P Q false a b f g = g refl

-- the gap that stands first in some bytes
abbrev GapFound : List ℕ → ℕ → Type 0
GapFound bytes count = (gap : List Space) × (take count bytes ≡ spaces gap) × IsGap gap (drop count bytes)

-- what is left of a comment, and the gap after it
abbrev CommentFound : List ℕ → ℕ → Type 0
CommentFound bytes count =
    (inside : List ℕ) × (gap : List Space) × (take count bytes ≡ inside ++ spaces gap)
    × NoneOf is_line_end inside × EndsBy is_line_end (spaces gap ++ drop count bytes) × IsGap gap (drop count bytes)

abbrev Found : Bool → List ℕ → ℕ → Type 0
Found true bytes count = CommentFound bytes count
Found false bytes count = GapFound bytes count

white_found : (b : ℕ) (bytes : List ℕ) (count : ℕ) → is_white b ≡ true → GapFound bytes count → GapFound (b ∷ bytes) (suc count)
white_found b bytes count e (gap, is, rule) = (White b ∷ gap, ap (λ xs. b ∷ xs) is, (e, rule))

line_found : (b : ℕ) (bytes : List ℕ) (count : ℕ) → nat_eq b 10 ≡ true → GapFound bytes count → CommentFound (b ∷ bytes) (suc count)
line_found b bytes count e (gap, is, rule) =
    let white : is_white b ≡ true = subst (λ x. is_white x ≡ true) (sym (eqb-true b 10 e)) refl in
    ([], White b ∷ gap, ap (λ xs. b ∷ xs) is, tt, e, (white, rule))

comment_found : (end : Bool) (b : ℕ) (bytes : List ℕ) → nat_eq b 10 ≡ end
    → GapFound bytes (gap_length false bytes) → CommentFound bytes (gap_length true bytes)
    → CommentFound (b ∷ bytes) (suc (gap_length (not end) bytes))
comment_found true b bytes e out within = line_found b bytes (gap_length false bytes) e out
comment_found false b bytes e out (inside, gap, is, none, ends, rule) =
    (b ∷ inside, gap, ap (λ xs. b ∷ xs) is, (e, none), ends, rule)

gap_case : (white percent : Bool) (b : ℕ) (bytes : List ℕ) → is_white b ≡ white → nat_eq b 37 ≡ percent
    → GapFound bytes (gap_length false bytes) → CommentFound bytes (gap_length true bytes)
    → GapFound (b ∷ bytes) (cond white (suc (gap_length false bytes)) (cond percent (suc (gap_length true bytes)) 0))
gap_case true percent b bytes e f out within = white_found b bytes (gap_length false bytes) e out
gap_case false true b bytes e f out (inside, gap, is, none, ends, rule) = (
  Comment inside ∷ gap,
  ap (λ x. x ∷ take (gap_length true bytes) bytes) (eqb-true b 37 f) ∙ ap (λ xs. 37 ∷ xs) is,
  (none, ends, rule),
)
gap_case false false b bytes e f out within = ([], refl, tt)

gap_found : (in_comment : Bool) (bytes : List ℕ) → Found in_comment bytes (gap_length in_comment bytes)
gap_found true [] = ([], [], refl, tt, tt, tt)
gap_found false [] = ([], refl, tt)
gap_found true (b ∷ bytes) = comment_found (nat_eq b 10) b bytes refl (gap_found false bytes) (gap_found true bytes)
gap_found false (b ∷ bytes) = gap_case (is_white b) (nat_eq b 37) b bytes refl refl (gap_found false bytes) (gap_found true bytes)

-- the shape of a piece fits the bytes up to its length, or the fault the bytes
abbrev PieceFound : Place → List ℕ → Result Piece LexFault → Type 0
PieceFound place bytes r =
    MatchResult r (λ piece. IsLexeme piece.shape (take piece.length bytes) (drop piece.length bytes)) (IsFault place bytes)

length_taken : (count : ℕ) (bytes : List ℕ) → count ≤ length bytes → length (take count bytes) ≡ count
length_taken count bytes h = let e : length (take count bytes) ≡ min count (length bytes) = length-take count bytes in omega arith

integer_is : (minus : Bool) (bytes : List ℕ) → nat_eq (length_before ends_digits bytes) 0 ≡ false
    → IsInteger minus (take (length_before ends_digits bytes) bytes) (35 ∷ (sign minus ++ take (length_before ends_digits bytes) bytes))
integer_is minus bytes e = record {
  spelled = refl;
  digits_only = none_before ends_digits bytes;
  some =
      let taken : length (take (length_before ends_digits bytes) bytes) ≡ length_before ends_digits bytes =
      length_taken (length_before ends_digits bytes) bytes (length_before_within ends_digits bytes) in
      let other : length_before ends_digits bytes ≡ 0 → ⊥ = eqb-false (length_before ends_digits bytes) 0 e in
      omega arith;
}

-- `#`, a sign, and the bytes after them
abbrev after_sign : Bool → List ℕ → List ℕ
after_sign minus bytes = 35 ∷ (sign minus ++ bytes)

sign_taken : (minus : Bool) (count : ℕ) (bytes : List ℕ)
    → take (length (after_sign minus []) + count) (after_sign minus bytes) ≡ after_sign minus (take count bytes)
sign_taken true count bytes = ap (λ n. take n (35 ∷ 45 ∷ bytes)) {x = 2 + count} {y = suc (suc count)} (omega arith)
sign_taken false count bytes = ap (λ n. take n (35 ∷ bytes)) {x = 1 + count} {y = suc count} (omega arith)

sign_dropped : (minus : Bool) (count : ℕ) (bytes : List ℕ)
    → drop (length (after_sign minus []) + count) (after_sign minus bytes) ≡ drop count bytes
sign_dropped true count bytes = ap (λ n. drop n (35 ∷ 45 ∷ bytes)) {x = 2 + count} {y = suc (suc count)} (omega arith)
sign_dropped false count bytes = ap (λ n. drop n (35 ∷ bytes)) {x = 1 + count} {y = suc count} (omega arith)

sign_joined : (minus : Bool) (count : ℕ) (bytes : List ℕ)
    → after_sign minus bytes ≡ after_sign minus (take count bytes) ++ drop count bytes
sign_joined true count bytes = ap (λ xs. 35 ∷ 45 ∷ xs) (sym (take-append-drop count bytes))
sign_joined false count bytes = ap (λ xs. 35 ∷ xs) (sym (take-append-drop count bytes))

sign_length : (minus : Bool) (count : ℕ) (bytes : List ℕ) → count ≤ length bytes
    → length (after_sign minus []) + count ≡ length (after_sign minus (take count bytes))
sign_length true count bytes h = let e : length (take count bytes) ≡ count = length_taken count bytes h in omega arith
sign_length false count bytes h = let e : length (take count bytes) ≡ count = length_taken count bytes h in omega arith

digits_found : (place : Place) (minus : Bool) (bytes : List ℕ)
    → first_is (nat_eq 45) (sign minus ++ bytes) ≡ minus
    → PieceFound place (after_sign minus bytes) (digits_at place (length (after_sign minus [])) minus bytes)
digits_found place minus bytes signed_so =
    let count : ℕ = length_before ends_digits bytes in
    let all : List ℕ = after_sign minus bytes in
    let P : Piece → Type 0 = λ piece. IsLexeme piece.shape (take piece.length all) (drop piece.length all) in
    let Q : LexFault → Type 0 = IsFault place all in
    let length_is : length (after_sign minus []) + count ≡ length (after_sign minus (take count bytes)) =
    sign_length minus count bytes (length_before_within ends_digits bytes) in
    either P Q (nat_eq count 0) _ _
    (λ e. (
      refl,
      minus,
      bytes,
      refl,
      signed_so,
      subst (λ n. EndsBy ends_digits (drop n bytes)) (eqb-true count 0 e) (ends_before ends_digits bytes),
    ))
    (λ e. either P Q (may_follow (drop count bytes)) _ _
    (λ f. either P Q (nat_le (number_from 0 (take count bytes)) (greatest minus)) _ _
    (λ g. (
      minus,
      take count bytes,
      subst (IsInteger minus (take count bytes)) (sym (sign_taken minus count bytes)) (integer_is minus bytes e),
      leb-true _ _ g,
      refl,
      subst (λ rest. may_follow rest ≡ true) (sym (sign_dropped minus count bytes)) f,
    ))
    (λ g. (
      refl,
      minus,
      take count bytes,
      after_sign minus (take count bytes),
      drop count bytes,
      sign_joined minus count bytes,
      integer_is minus bytes e,
      leb-false _ _ g,
      f,
    )))
    (λ f. (
      after_sign minus (take count bytes),
      drop count bytes,
      sign_joined minus count bytes,
      ap (along place) length_is,
      f,
      inl (minus, take count bytes, integer_is minus bytes e, ends_before ends_digits bytes),
    )))

integer_found : (place : Place) (bytes : List ℕ) → PieceFound place (35 ∷ bytes) (integer_at place bytes)
integer_found place [] = digits_found place false [] refl
integer_found place (b ∷ bytes) =
    either _ _ (nat_eq 45 b) _ _
    (λ e. subst (λ x. PieceFound place (35 ∷ x ∷ bytes) (digits_at place 2 true bytes)) (eqb-true 45 b e)
    (digits_found place true bytes refl))
    (λ e. digits_found place false (b ∷ bytes) e)

-- one byte more
taken_one : (count : ℕ) (bytes : List ℕ) (q : ℕ) (rest : List ℕ) → drop count bytes ≡ q ∷ rest
    → take (suc count) bytes ≡ take count bytes ++ q ∷ []
taken_one zero [] q rest e = cc
taken_one zero (b ∷ bytes) q rest e = let same : b ≡ q = cc in ap (λ x. x ∷ []) same
taken_one (suc count) [] q rest e = cc
taken_one (suc count) (b ∷ bytes) q rest e = ap (λ xs. b ∷ xs) (taken_one count bytes q rest e)

dropped_one : (count : ℕ) (bytes : List ℕ) (q : ℕ) (rest : List ℕ) → drop count bytes ≡ q ∷ rest → drop (suc count) bytes ≡ rest
dropped_one zero [] q rest e = cc
dropped_one zero (b ∷ bytes) q rest e = cc
dropped_one (suc count) [] q rest e = cc
dropped_one (suc count) (b ∷ bytes) q rest e = dropped_one count bytes q rest e

joined_one : (count : ℕ) (bytes : List ℕ) (q : ℕ) (rest : List ℕ) → drop count bytes ≡ q ∷ rest
    → bytes ≡ take count bytes ++ q ∷ rest
joined_one count bytes q rest e = sym (take-append-drop count bytes) ∙ ap (λ xs. take count bytes ++ xs) e

line_end : (q : ℕ) → ends_inside q ≡ true → nat_eq 34 q ≡ false → nat_eq q 10 ≡ true
line_end q e f = grind (arith, nat_tests)

text_length : (count : ℕ) (bytes : List ℕ) → count ≤ length bytes
    → count + 2 ≡ length (34 ∷ (take count bytes ++ 34 ∷ []))
text_length count bytes h =
    let taken : length (take count bytes) ≡ count = length_taken count bytes h in
    let joined : length (take count bytes ++ 34 ∷ []) ≡ length (take count bytes) + 1 = length-append (take count bytes) (34 ∷ []) in
    omega arith

text_case : (place : Place) (after tail : List ℕ) → drop (length_before ends_inside after) after ≡ tail
    → PieceFound place (34 ∷ after)
    (cond (first_is (nat_eq 34) tail)
    (followed place (record { length = length_before ends_inside after + 2; shape = Text }) (drop 1 tail))
    (Err (NoEndQuote place)))
text_case place after [] e =
    let inside : ℕ = length_before ends_inside after in (
      refl,
      take inside after,
      drop inside after,
      ap (λ xs. 34 ∷ xs) (sym (take-append-drop inside after)),
      none_before ends_inside after,
      subst (EndsBy is_line_end) (sym e) tt,
    )
text_case place after (q ∷ rest) e =
    let inside : ℕ = length_before ends_inside after in
    let all : List ℕ = 34 ∷ after in
    let text : List ℕ = 34 ∷ (take inside after ++ 34 ∷ []) in
    let P : Piece → Type 0 = λ piece. IsLexeme piece.shape (take piece.length all) (drop piece.length all) in
    let Q : LexFault → Type 0 = IsFault place all in
    let plain : NoneOf ends_inside (take inside after) = none_before ends_inside after in
    let count : inside + 2 ≡ suc (suc inside) = omega arith in
    either P Q (nat_eq 34 q) _ _
    (λ f. let quote : 34 ≡ q = eqb-true 34 q f in
    let closed : drop inside after ≡ 34 ∷ rest = e ∙ ap (λ x. x ∷ rest) (sym quote) in
    let all_is : all ≡ text ++ rest =
    ap (λ xs. 34 ∷ xs) (joined_one inside after 34 rest closed ∙ sym (append_assoc (take inside after) (34 ∷ []) rest)) in
    either P Q (may_follow rest) _ _
    (λ g. (
      take inside after,
      record {
        spelled = ap (λ n. take n all) count ∙ ap (λ xs. 34 ∷ xs) (taken_one inside after 34 rest closed);
        plain = plain;
      },
      subst (λ xs. may_follow xs ≡ true)
          (sym (ap (λ n. drop n all) count ∙ dropped_one inside after 34 rest closed)) g,
    ))
    (λ g. (text, rest, all_is, ap (along place) (text_length inside after (length_before_within ends_inside after)), g, inr (take inside after, record { spelled = refl; plain = plain }))))
    (λ f. (
      refl,
      take inside after,
      drop inside after,
      ap (λ xs. 34 ∷ xs) (sym (take-append-drop inside after)),
      plain,
      subst (EndsBy is_line_end) (sym e) (line_end q (subst (EndsBy ends_inside) e (ends_before ends_inside after)) f),
    ))

text_found : (place : Place) (after : List ℕ) → PieceFound place (34 ∷ after) (text_at place after)
text_found place after = text_case place after (drop (length_before ends_inside after) after) refl

or_left : (r c : Bool) → (r || c) ≡ true → c ≡ false → r ≡ true
or_left true c e f = refl
or_left false c e f = cc

run_ends : (tail : List ℕ) → EndsBy ends_clean tail → first_is is_control tail ≡ false → EndsBy ends_run tail
run_ends [] e f = tt
run_ends (q ∷ tail) e f = or_left (ends_run q) (is_control q) e f

illegal : (place : Place) (all : List ℕ) (count : ℕ) (tail : List ℕ) → begins_run all ≡ true
    → count ≤ length all → NoneOf ends_clean (take count all) → drop count all ≡ tail → first_is is_control tail ≡ true
    → IsFault place all (IllegalByte (along place count))
illegal place all count [] begins h none e f = cc
illegal place all count (q ∷ tail) begins h none e f =
    (take count all, q, tail, joined_one count all q tail e, ap (along place) (sym (length_taken count all h)), begins, none, f)

quoted_found : (place : Place) (bytes : List ℕ) → PieceFound place (39 ∷ bytes) (run_at place Quoted (39 ∷ bytes))
quoted_found place bytes =
    let clean : ℕ = length_before ends_clean bytes in
    let all : List ℕ = 39 ∷ bytes in
    let P : Piece → Type 0 = λ piece. IsLexeme piece.shape (take piece.length all) (drop piece.length all) in
    let Q : LexFault → Type 0 = IsFault place all in
    either P Q (first_is is_control (drop clean bytes)) _ _
    (λ e. illegal place all (suc clean) (drop clean bytes) refl (length_before_within ends_clean all) (none_before ends_clean all) refl e)
    (λ e. (refl, none_before ends_clean all, run_ends (drop clean bytes) (ends_before ends_clean bytes) e))

begins : (b : ℕ) → nat_eq 35 b ≡ false → nat_eq 34 b ≡ false → (not (nat_eq 35 b) && not (nat_eq 34 b)) ≡ true
begins b e f = ap (λ v. not v && not (nat_eq 34 b)) e ∙ ap not f

-- the first byte of a run is a control byte or belongs to it
abbrev NameCase : Bool → Place → ℕ → List ℕ → Type 0
NameCase ends place b bytes =
    PieceFound place (b ∷ bytes)
    (cond (first_is is_control (drop (cond ends 0 (suc (length_before ends_clean bytes))) (b ∷ bytes)))
    (Err (IllegalByte (along place (cond ends 0 (suc (length_before ends_clean bytes))))))
    (Ok (record { length = cond ends 0 (suc (length_before ends_clean bytes)); shape = Name })))

name_case : (control : Bool) (place : Place) (b : ℕ) (bytes : List ℕ)
    → ends_clean b ≡ control → is_control b ≡ control
    → nat_eq 35 b ≡ false → nat_eq 34 b ≡ false → nat_eq 39 b ≡ false → NameCase control place b bytes
name_case true place b bytes clean control e f g =
    either _ _ (is_control b) _ _
    (λ h. illegal place (b ∷ bytes) 0 (b ∷ bytes) (begins b e f) (omega arith) tt refl h)
    (λ h. cc)
name_case false place b bytes clean control e f g =
    let count : ℕ = length_before ends_clean bytes in
    either _ _ (first_is is_control (drop count bytes)) _ _
    (λ h. illegal place (b ∷ bytes) (suc count) (drop count bytes) (begins b e f)
    (let within : count ≤ length bytes = length_before_within ends_clean bytes in omega arith)
    (clean, none_before ends_clean bytes) refl h)
    (λ h. (
      omega arith,
      g,
      begins b e f,
      (clean, none_before ends_clean bytes),
      run_ends (drop count bytes) (ends_before ends_clean bytes) h,
    ))

name_found : (place : Place) (b : ℕ) (bytes : List ℕ) → ends_run b ≡ false
    → nat_eq 35 b ≡ false → nat_eq 34 b ≡ false → nat_eq 39 b ≡ false
    → PieceFound place (b ∷ bytes) (run_at place Name (b ∷ bytes))
name_found place b bytes run e f g =
    let same : ends_clean b ≡ is_control b = ap (λ r. r || is_control b) run in
    subst (λ v. NameCase v place b bytes) (sym same) (name_case (is_control b) place b bytes same refl e f g)

piece_found : (place : Place) (b : ℕ) (bytes : List ℕ) → gap_at (b ∷ bytes) ≡ 0
    → PieceFound place (b ∷ bytes) (piece_at place (b ∷ bytes))
piece_found place b bytes gap =
    let all : List ℕ = b ∷ bytes in
    let P : Piece → Type 0 = λ piece. IsLexeme piece.shape (take piece.length all) (drop piece.length all) in
    let Q : LexFault → Type 0 = IsFault place all in
    either P Q (nat_eq 123 b) _ _ (λ e. ap (λ x. x ∷ []) (sym (eqb-true 123 b e)))
    (λ e. either P Q (nat_eq 125 b) _ _ (λ f. ap (λ x. x ∷ []) (sym (eqb-true 125 b f)))
    (λ f. either P Q (nat_eq 35 b) _ _
    (λ g. subst (λ x. PieceFound place (x ∷ bytes) (integer_at place bytes)) (eqb-true 35 b g) (integer_found place bytes))
    (λ g. either P Q (nat_eq 34 b) _ _
    (λ h. subst (λ x. PieceFound place (x ∷ bytes) (text_at place bytes)) (eqb-true 34 b h) (text_found place bytes))
    (λ h. either P Q (nat_eq 39 b) _ _
    (λ i. subst (λ x. PieceFound place (x ∷ bytes) (run_at place Quoted (x ∷ bytes))) (eqb-true 39 b i) (quoted_found place bytes))
    (λ i. name_found place b bytes (runs_on b bytes gap e f) g h i)))))

-- what the definition reads from some bytes on, the grammar spells
abbrev pub Spelled : ℕ → Place → List ℕ → Lexed → Type 0
Spelled start place bytes found = Spells start place bytes found.lexemes found.fault

gap_within : (in_comment : Bool) (bytes : List ℕ) → gap_length in_comment bytes ≤ length bytes
gap_within true [] = omega arith
gap_within false [] = omega arith
gap_within true (b ∷ bytes) =
    let out : gap_length false bytes ≤ length bytes = gap_within false bytes in
    let within : gap_length true bytes ≤ length bytes = gap_within true bytes in
    elim (nat_eq b 10) as (λ v. suc (gap_length (not v) bytes) ≤ suc (length bytes)) [ true ↦ omega arith | false ↦ omega arith ]
gap_within false (b ∷ bytes) =
    let out : gap_length false bytes ≤ length bytes = gap_within false bytes in
    let within : gap_length true bytes ≤ length bytes = gap_within true bytes in
    elim (is_white b) as (λ w. cond w (suc (gap_length false bytes)) (cond (nat_eq b 37) (suc (gap_length true bytes)) 0) ≤ suc (length bytes)) [
      | true ↦ omega arith
      | false ↦ elim (nat_eq b 37) as (λ v. cond v (suc (gap_length true bytes)) 0 ≤ suc (length bytes))
          [ true ↦ omega arith | false ↦ omega arith ]
    ]

-- a gap, and what is left after it
record Gapped (start : ℕ) (place : Place) (bytes : List ℕ) (to : ℕ) (at : Place) (rest : List ℕ) : Type 0 where
  gap : List Space
  joined : bytes ≡ spaces gap ++ rest
  rule : IsGap gap rest
  to_is : to ≡ start + length (spaces gap)
  at_is : at ≡ after_bytes (spaces gap) place
  gone : gap_at rest ≡ 0
  same : lexed_after 0 to at rest ≡ lexed_after 0 start place bytes
  shorter : length rest ≤ length bytes

gapped : (start : ℕ) (place : Place) (bytes : List ℕ)
    → Gapped start place bytes (start + gap_length false bytes) (after_bytes (take (gap_length false bytes) bytes) place)
    (drop (gap_length false bytes) bytes)
gapped start place bytes = gapped_by (gap_found false bytes)
  where
    gapped_by : GapFound bytes (gap_length false bytes)
        → Gapped start place bytes (start + gap_length false bytes) (after_bytes (take (gap_length false bytes) bytes) place)
        (drop (gap_length false bytes) bytes)
    gapped_by (gap, is, rule) = record {
      gap = gap;
      joined = sym (take-append-drop (gap_length false bytes) bytes) ∙ ap (λ xs. xs ++ drop (gap_length false bytes) bytes) is;
      rule = rule;
      to_is = ap (λ n. start + n) (sym (length_taken (gap_length false bytes) bytes (gap_within false bytes)) ∙ ap length is);
      at_is = ap (λ xs. after_bytes xs place) is;
      gone = gap_stops false bytes;
      same = sym (gap_passed false start place bytes);
      shorter = let e : length (drop (gap_length false bytes) bytes) ≡ length bytes - gap_length false bytes = length-drop (gap_length false bytes) bytes in omega arith;
    }

-- the reader goes on after a lexeme
abbrev GoesOn : ℕ → Type 0
GoesOn n = (start : ℕ) (place : Place) (bytes : List ℕ) → length bytes ≤ n → Spelled start place bytes (lexed_after 0 start place bytes)

found_at : (n : ℕ) → GoesOn n → (start : ℕ) (place : Place) (bytes : List ℕ) (to : ℕ) (at : Place) (rest : List ℕ)
    (r : Result Piece LexFault) → piece_at at rest ≡ r → PieceFound at rest r → 0 < length rest → length bytes ≤ suc n
    → Gapped start place bytes to at rest → Spelled start place bytes (lexed_after 0 to at rest)
found_at n more start place bytes to at rest (Ok piece) is found some small h =
    let reaches : Reaches (length rest) piece =
    subst (λ r. MatchResult r (Reaches (length rest)) (λ _. Unit {0})) is (piece_reaches at rest h.gone some) in
    let taken : length (take piece.length rest) ≡ piece.length = length_taken piece.length rest reaches.1 in
    let whole : take piece.length rest ++ drop piece.length rest ≡ rest = take-append-drop piece.length rest in
    let shorter : length (drop piece.length rest) ≤ n =
    (let e : length (drop piece.length rest) ≡ length rest - piece.length = length-drop piece.length rest in
    let f : 0 < piece.length = reaches.0 in let g : length rest ≤ length bytes = h.shorter in omega arith) in
    subst (Spelled start place bytes) (sym (piece_passed to at rest piece h.gone is reaches.0 reaches.1)) (
      h.gap,
      drop piece.length rest,
      h.joined ∙ ap (λ xs. spaces h.gap ++ xs) (sym whole),
      subst (IsGap h.gap) (sym whole) h.rule,
      h.to_is,
      h.at_is,
      found,
      subst (λ k. Spelled (to + k) (after_bytes (take piece.length rest) at) (drop piece.length rest)
          (lexed_from piece.length to at rest)) (sym taken)
          (more (to + piece.length) (after_bytes (take piece.length rest) at) (drop piece.length rest) shorter),
    )
found_at n more start place bytes to at rest (Err fault) is found some small h =
    subst (Spelled start place bytes) (sym (fault_first to at rest fault h.gone is some))
    (h.gap, rest, h.joined, h.rule, subst (λ p. IsFault p rest fault) h.at_is found)

rest_spelled : (n : ℕ) → GoesOn n → (start : ℕ) (place : Place) (bytes : List ℕ) (to : ℕ) (at : Place) (rest : List ℕ)
    → length bytes ≤ suc n → Gapped start place bytes to at rest → Spelled start place bytes (lexed_after 0 to at rest)
rest_spelled n more start place bytes to at [] small h = (h.gap, h.joined ∙ append-nil (spaces h.gap), h.rule)
rest_spelled n more start place bytes to at (b ∷ rest) small h =
    found_at n more start place bytes to at (b ∷ rest) (piece_at at (b ∷ rest)) refl (piece_found at b rest h.gone)
    (omega arith) small h

goes_on : (n : ℕ) → GoesOn n
goes_on zero start place [] h = ([], refl, tt)
goes_on zero start place (b ∷ bytes) h = absurd (omega arith)
goes_on (suc n) start place bytes h =
    let g = gapped start place bytes in
    subst (Spelled start place bytes) g.same
    (rest_spelled n (goes_on n) start place bytes _ _ _ h g)

pub spelled : (start : ℕ) (place : Place) (bytes : List ℕ) → Spelled start place bytes (lexed_after 0 start place bytes)
spelled start place bytes = goes_on (length bytes) start place bytes (omega arith)
