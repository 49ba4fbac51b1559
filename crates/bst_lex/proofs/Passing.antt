-- What is passed over changes no lexeme that follows.
use Rattle.std.proofs.Common.{◌≡◌, ℕ, zero, suc, ◌+◌, ◌-◌, ◌<◌, ◌≤◌, Bool, true, false, cond, nat_eq, not, List, [], ◌∷◌, length, take, drop, Ok, Err, Some, refl, sym, ap, ◌∙◌, subst, arith, eqb-true}
use Rattle.bv_base.specs.declared.place.Place.{Place}
use Rattle.bv_base.specs.Bytes.{is_white}
use Rattle.bst_lex.specs.declared.lexeme.LexFault.{LexFault}
use Rattle.bst_lex.specs.declared.lexeme.Piece.{Piece}
use Rattle.bst_lex.specs.Lexemes.{Lexed, before, begun, lexed_after}
use Rattle.bst_lex.specs.Pieces.{comment_length, gap_at, gap_length, piece_at}
use Rattle.bv_base.specs.Places.{after_byte, after_bytes}

-- the bytes that are passed over are gone
pub lexed_passed : (pass start : ℕ) (place : Place) (bytes : List ℕ) → pass ≤ length bytes
    → lexed_after pass start place bytes
    ≡ lexed_after 0 (start + pass) (after_bytes (take pass bytes) place) (drop pass bytes)
lexed_passed zero start place bytes h = ap (λ n. lexed_after 0 n place bytes) (omega arith)
lexed_passed (suc pass) start place [] h = absurd (omega arith)
lexed_passed (suc pass) start place (b ∷ bytes) h =
    lexed_passed pass (start + 1) (after_byte b place) bytes (omega arith)
    ∙ ap (λ n. lexed_after 0 n (after_bytes (take pass bytes) (after_byte b place)) (drop pass bytes)) (omega arith)

-- how much of a comment is left to pass over
abbrev pub passing : Bool → List ℕ → ℕ
passing true bytes = comment_length bytes
passing false bytes = 0

-- what stands first in bytes that begin with white space or a comment
begun_gap : (more start : ℕ) (place : Place) (b : ℕ) (bytes : List ℕ) → gap_at (b ∷ bytes) ≡ suc more
    → lexed_after 0 start place (b ∷ bytes) ≡ lexed_after more (start + 1) (after_byte b place) bytes
begun_gap more start place b bytes e =
    ap (λ n. begun n (piece_at place (b ∷ bytes)) start place (b ∷ bytes)
    (λ pass. lexed_after pass (start + 1) (after_byte b place) bytes)) e

-- the lexemes after a gap
abbrev pub lexed_from : ℕ → ℕ → Place → List ℕ → Lexed
lexed_from count start place bytes =
    lexed_after 0 (start + count) (after_bytes (take count bytes) place) (drop count bytes)

-- one more byte of a gap
gap_more : (pass count start : ℕ) (place : Place) (b : ℕ) (bytes : List ℕ)
    → lexed_after pass (start + 1) (after_byte b place) bytes ≡ lexed_from count (start + 1) (after_byte b place) bytes
    → lexed_after pass (start + 1) (after_byte b place) bytes ≡ lexed_from (suc count) start place (b ∷ bytes)
gap_more pass count start place b bytes e =
    e ∙ ap (λ n. lexed_after 0 n (after_bytes (take count bytes) (after_byte b place)) (drop count bytes)) (omega arith)

-- a byte where no comment has begun: white space, `%` or neither
abbrev GapCase : Bool → Bool → ℕ → Place → ℕ → List ℕ → Type 0
GapCase white percent start place b bytes =
    begun (cond white 1 (cond percent (suc (comment_length bytes)) 0)) (piece_at place (b ∷ bytes)) start place (b ∷ bytes)
    (λ pass. lexed_after pass (start + 1) (after_byte b place) bytes)
    ≡ lexed_from (cond white (suc (gap_length false bytes)) (cond percent (suc (gap_length true bytes)) 0)) start place (b ∷ bytes)

-- a byte of a comment: its line's end or not
abbrev CommentCase : Bool → ℕ → Place → ℕ → List ℕ → Type 0
CommentCase end start place b bytes =
    lexed_after (cond end 0 (suc (comment_length bytes))) start place (b ∷ bytes)
    ≡ lexed_from (suc (gap_length (not end) bytes)) start place (b ∷ bytes)

comment_case : (end : Bool) (start : ℕ) (place : Place) (b : ℕ) (bytes : List ℕ) → nat_eq b 10 ≡ end
    → lexed_after 0 (start + 1) (after_byte b place) bytes
    ≡ lexed_from (gap_length false bytes) (start + 1) (after_byte b place) bytes
    → lexed_after (comment_length bytes) (start + 1) (after_byte b place) bytes
    ≡ lexed_from (gap_length true bytes) (start + 1) (after_byte b place) bytes
    → CommentCase end start place b bytes
comment_case true start place b bytes e out within =
    let is : 10 ≡ b = sym (eqb-true b 10 e) in
    begun_gap 0 start place b bytes (subst (λ x. gap_at (x ∷ bytes) ≡ 1) is refl)
    ∙ gap_more 0 (gap_length false bytes) start place b bytes out
comment_case false start place b bytes e out within =
    gap_more (comment_length bytes) (gap_length true bytes) start place b bytes within

-- no gap begins with a byte that is neither white space nor `%`
no_gap : (b : ℕ) (bytes : List ℕ) → is_white b ≡ false → nat_eq b 37 ≡ false → gap_at (b ∷ bytes) ≡ 0
no_gap b bytes e f =
    ap (λ w. cond w 1 (cond (nat_eq b 37) (suc (comment_length bytes)) 0)) e
    ∙ ap (λ w. cond w (suc (comment_length bytes)) 0) f

gap_case : (white percent : Bool) (start : ℕ) (place : Place) (b : ℕ) (bytes : List ℕ)
    → is_white b ≡ white → nat_eq b 37 ≡ percent
    → lexed_after 0 (start + 1) (after_byte b place) bytes
    ≡ lexed_from (gap_length false bytes) (start + 1) (after_byte b place) bytes
    → lexed_after (comment_length bytes) (start + 1) (after_byte b place) bytes
    ≡ lexed_from (gap_length true bytes) (start + 1) (after_byte b place) bytes
    → GapCase white percent start place b bytes
gap_case true percent start place b bytes e f out within =
    gap_more 0 (gap_length false bytes) start place b bytes out
gap_case false true start place b bytes e f out within =
    gap_more (comment_length bytes) (gap_length true bytes) start place b bytes within
gap_case false false start place b bytes e f out within =
    ap (λ n. begun n (piece_at place (b ∷ bytes)) start place (b ∷ bytes)
    (λ pass. lexed_after pass (start + 1) (after_byte b place) bytes)) (sym (no_gap b bytes e f))
    ∙ ap (λ n. lexed_after 0 n place (b ∷ bytes)) (omega arith)

pub gap_passed : (in_comment : Bool) (start : ℕ) (place : Place) (bytes : List ℕ)
    → lexed_after (passing in_comment bytes) start place bytes ≡ lexed_from (gap_length in_comment bytes) start place bytes
gap_passed true start place [] = refl
gap_passed false start place [] = refl
gap_passed true start place (b ∷ bytes) =
    comment_case (nat_eq b 10) start place b bytes refl
    (gap_passed false (start + 1) (after_byte b place) bytes)
    (gap_passed true (start + 1) (after_byte b place) bytes)
gap_passed false start place (b ∷ bytes) =
    gap_case (is_white b) (nat_eq b 37) start place b bytes refl refl
    (gap_passed false (start + 1) (after_byte b place) bytes)
    (gap_passed true (start + 1) (after_byte b place) bytes)

-- after a gap stands neither white space nor a comment
stops_case : (white percent : Bool) (b : ℕ) (bytes : List ℕ)
    → is_white b ≡ white → nat_eq b 37 ≡ percent
    → gap_at (drop (gap_length false bytes) bytes) ≡ 0
    → gap_at (drop (gap_length true bytes) bytes) ≡ 0
    → gap_at (drop (cond white (suc (gap_length false bytes)) (cond percent (suc (gap_length true bytes)) 0)) (b ∷ bytes)) ≡ 0
stops_case true percent b bytes e f out within = out
stops_case false true b bytes e f out within = within
stops_case false false b bytes e f out within = no_gap b bytes e f

pub gap_stops : (in_comment : Bool) (bytes : List ℕ) → gap_at (drop (gap_length in_comment bytes) bytes) ≡ 0
gap_stops true [] = refl
gap_stops false [] = refl
gap_stops true (b ∷ bytes) =
    elim (nat_eq b 10) as (λ end. gap_at (drop (gap_length (not end) bytes) bytes) ≡ 0)
    [ true ↦ gap_stops false bytes | false ↦ gap_stops true bytes ]
gap_stops false (b ∷ bytes) =
    stops_case (is_white b) (nat_eq b 37) b bytes refl refl (gap_stops false bytes) (gap_stops true bytes)

-- the lexemes from a lexeme on
pub piece_passed : (start : ℕ) (place : Place) (bytes : List ℕ) (piece : Piece)
    → gap_at bytes ≡ 0 → piece_at place bytes ≡ Ok piece → 0 < piece.length → piece.length ≤ length bytes
    → lexed_after 0 start place bytes
    ≡ before
    (record { text = take piece.length bytes; start = start; place = place; shape = piece.shape })
    (lexed_from piece.length start place bytes)
piece_passed start place [] piece gap is some within = absurd (omega arith)
piece_passed start place (b ∷ bytes) piece gap is some within =
    let after : ℕ → Lexed = λ pass. lexed_after pass (start + 1) (after_byte b place) bytes in
    ap (λ n. begun n (piece_at place (b ∷ bytes)) start place (b ∷ bytes) after) gap
    ∙ ap (λ p. begun 0 p start place (b ∷ bytes) after) is
    ∙ ap (before (record { text = take piece.length (b ∷ bytes); start = start; place = place; shape = piece.shape }))
    (passed_one piece.length start place b bytes some within)
  where
    passed_one : (count start : ℕ) (place : Place) (b : ℕ) (bytes : List ℕ) → 0 < count → count ≤ length (b ∷ bytes)
        → lexed_after (count - 1) (start + 1) (after_byte b place) bytes ≡ lexed_from count start place (b ∷ bytes)
    passed_one zero start place b bytes some within = absurd (omega arith)
    passed_one (suc count) start place b bytes some within =
        ap (λ n. lexed_after n (start + 1) (after_byte b place) bytes) (omega arith)
        ∙ gap_more count count start place b bytes (lexed_passed count (start + 1) (after_byte b place) bytes (omega arith))

-- nothing but the fault where a fault stands first
pub fault_first : (start : ℕ) (place : Place) (bytes : List ℕ) (fault : LexFault)
    → gap_at bytes ≡ 0 → piece_at place bytes ≡ Err fault → 0 < length bytes
    → lexed_after 0 start place bytes ≡ record { lexemes = []; fault = Some fault }
fault_first start place [] fault gap is some = absurd (omega arith)
fault_first start place (b ∷ bytes) fault gap is some =
    let after : ℕ → Lexed = λ pass. lexed_after pass (start + 1) (after_byte b place) bytes in
    ap (λ n. begun n (piece_at place (b ∷ bytes)) start place (b ∷ bytes) after) gap
    ∙ ap (λ p. begun 0 p start place (b ∷ bytes) after) is
