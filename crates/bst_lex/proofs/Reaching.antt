-- A lexeme has at least one byte, and ends within its text.
use Rattle.std.proofs.Common.{◌≡◌, ℕ, zero, suc, ◌+◌, ◌<◌, ◌≤◌, ◌||◌, Bool, true, false, cond, nat_eq, nat_le, List, [], ◌∷◌, length, take, drop, Result, IfOk, refl, sym, ap, ◌∙◌, subst, arith}
use Rattle.std.proofs.lemmas.Bool.Decides.{nat_tests}
use Rattle.bv_base.specs.declared.place.Place.{Place}
use Rattle.bv_base.specs.declared.limits.TheConstants.{GREATEST_INTEGER}
use Rattle.bv_base.specs.Bytes.{is_white}
use Rattle.bst_lex.specs.declared.lexeme.LexFault.{LexFault}
use Rattle.bst_lex.specs.declared.lexeme.Piece.{Piece}
use Rattle.bst_lex.specs.declared.lexeme.Shape.{Shape}
use Rattle.bst_lex.specs.declared.lexeme.Shape.TheVariants.{Quoted, Name}
use Rattle.bv_base.specs.Runs.{number_from, length_before, ends_digits}
use Rattle.bst_lex.specs.Pieces.{comment_length, gap_at, piece_at, digits_at, integer_at, text_at, run_at, may_follow, first_is, ends_inside, ends_clean, ends_run, is_control}

-- a piece within so many bytes
abbrev pub Reaches : ℕ → Piece → Type 0
Reaches bytes piece = (0 < piece.length) × (piece.length ≤ bytes)

-- a test decides which of two results is looked at
ok_cases : (P : Piece → Type 0) (test : Bool) (a b : Result Piece LexFault)
    → (test ≡ true → IfOk a P) → (test ≡ false → IfOk b P) → IfOk (cond test a b) P
ok_cases P true a b f g = f refl
ok_cases P false a b f g = g refl

pub length_before_within : (test : ℕ → Bool) (bytes : List ℕ) → length_before test bytes ≤ length bytes
length_before_within test [] = omega arith
length_before_within test (b ∷ bytes) =
    let rest : length_before test bytes ≤ length bytes = length_before_within test bytes in
    elim (test b) as (λ v. cond v 0 (suc (length_before test bytes)) ≤ suc (length bytes))
    [ true ↦ omega arith | false ↦ omega arith ]

-- a byte that stands first is there
first_is_there : (test : ℕ → Bool) (count : ℕ) (bytes : List ℕ) → first_is test (drop count bytes) ≡ true → count < length bytes
first_is_there test zero [] e = cc
first_is_there test (suc count) [] e = cc
first_is_there test zero (b ∷ bytes) e = omega arith
first_is_there test (suc count) (b ∷ bytes) e =
    let rest : count < length bytes = first_is_there test count bytes e in omega arith

digits_reach : (place : Place) (before : ℕ) (minus : Bool) (bytes : List ℕ) (all : ℕ)
    → 0 < before → before + length bytes ≤ all → IfOk (digits_at place before minus bytes) (Reaches all)
digits_reach place before minus bytes all some h =
    let within : length_before ends_digits bytes ≤ length bytes = length_before_within ends_digits bytes in
    let P : Piece → Type 0 = Reaches all in
    ok_cases P (nat_eq (length_before ends_digits bytes) 0) _ _ (λ e. tt)
    (λ e. ok_cases P (may_follow (drop (length_before ends_digits bytes) bytes)) _ _
    (λ f. ok_cases P (nat_le (number_from 0 (take (length_before ends_digits bytes) bytes)) (cond minus (suc GREATEST_INTEGER) GREATEST_INTEGER)) _ _
    (λ g. (omega arith, omega arith)) (λ g. tt))
    (λ f. tt))

integer_reaches : (place : Place) (bytes : List ℕ) (all : ℕ) → 1 + length bytes ≤ all
    → IfOk (integer_at place bytes) (Reaches all)
integer_reaches place [] all h = digits_reach place 1 false [] all (omega arith) h
integer_reaches place (b ∷ bytes) all h =
    ok_cases (Reaches all) (nat_eq 45 b) _ _
    (λ e. digits_reach place 2 true bytes all (omega arith) (omega arith))
    (λ e. digits_reach place 1 false (b ∷ bytes) all (omega arith) h)

text_reaches : (place : Place) (bytes : List ℕ) (all : ℕ) → 1 + length bytes ≤ all → IfOk (text_at place bytes) (Reaches all)
text_reaches place bytes all h =
    ok_cases (Reaches all) (first_is (nat_eq 34) (drop (length_before ends_inside bytes) bytes)) _ _
    (λ e. let there : length_before ends_inside bytes < length bytes = first_is_there (nat_eq 34) _ bytes e in
    ok_cases (Reaches all) (may_follow (drop 1 (drop (length_before ends_inside bytes) bytes))) _ _ (λ f. (omega arith, omega arith)) (λ f. tt))
    (λ e. tt)

-- the first byte of a run belongs to it, where it is no control byte
abbrev RunCase : Bool → ℕ → List ℕ → Type 0
RunCase ends b bytes =
    first_is is_control (drop (cond ends 0 (suc (length_before ends_clean bytes))) (b ∷ bytes)) ≡ false
    → 0 < cond ends 0 (suc (length_before ends_clean bytes))

run_case : (control : Bool) (b : ℕ) (bytes : List ℕ) → is_control b ≡ control → RunCase control b bytes
run_case true b bytes e h = cc
run_case false b bytes e h = omega arith

run_reaches : (place : Place) (shape : Shape) (b : ℕ) (bytes : List ℕ) → ends_run b ≡ false
    → IfOk (run_at place shape (b ∷ bytes)) (Reaches (length (b ∷ bytes)))
run_reaches place shape b bytes e =
    let clean : ends_clean b ≡ is_control b = ap (λ r. r || is_control b) e in
    let some : RunCase (ends_clean b) b bytes =
    subst (λ v. RunCase v b bytes) (sym clean) (run_case (is_control b) b bytes refl) in
    ok_cases (Reaches (length (b ∷ bytes)))
    (first_is is_control (drop (length_before ends_clean (b ∷ bytes)) (b ∷ bytes))) _ _
    (λ h. tt) (λ h. (some h, length_before_within ends_clean (b ∷ bytes)))

-- where neither white space nor a comment begins
gap_none : (white percent : Bool) (n : ℕ) → cond white 1 (cond percent (suc n) 0) ≡ 0 → (white ≡ false) × (percent ≡ false)
gap_none true percent n e = absurd (omega arith)
gap_none false true n e = absurd (omega arith)
gap_none false false n e = (refl, refl)

pub runs_on : (b : ℕ) (bytes : List ℕ) → gap_at (b ∷ bytes) ≡ 0 → nat_eq 123 b ≡ false → nat_eq 125 b ≡ false
    → ends_run b ≡ false
runs_on b bytes gap opens closes =
    let none : (is_white b ≡ false) × (nat_eq b 37 ≡ false) = gap_none (is_white b) (nat_eq b 37) (comment_length bytes) gap in
    ap (λ w. w || (nat_eq b 123 || (nat_eq b 125 || (nat_eq b 37 || false)))) none.0
    ∙ grind (arith, nat_tests)

pub piece_reaches : (place : Place) (bytes : List ℕ) → gap_at bytes ≡ 0 → 0 < length bytes
    → IfOk (piece_at place bytes) (Reaches (length bytes))
piece_reaches place [] gap some = absurd (omega arith)
piece_reaches place (b ∷ bytes) gap some =
    let P : Piece → Type 0 = Reaches (length (b ∷ bytes)) in
    ok_cases P (nat_eq 123 b) _ _ (λ e. (omega arith, omega arith))
    (λ e. ok_cases P (nat_eq 125 b) _ _ (λ f. (omega arith, omega arith))
    (λ f. ok_cases P (nat_eq 35 b) _ _ (λ g. integer_reaches place bytes (length (b ∷ bytes)) (omega arith))
    (λ g. ok_cases P (nat_eq 34 b) _ _ (λ h. text_reaches place bytes (length (b ∷ bytes)) (omega arith))
    (λ h. ok_cases P (nat_eq 39 b) _ _
    (λ i. run_reaches place Quoted b bytes (runs_on b bytes gap e f))
    (λ i. run_reaches place Name b bytes (runs_on b bytes gap e f))))))
