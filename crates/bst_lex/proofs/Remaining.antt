-- What is left of a source when its reader goes on.
use Rattle.std.proofs.Common.{◌≡◌, ℕ, ◌+◌, ◌<◌, false, List, [], ◌∷◌, length, take, drop, Option, Some, None, Ok, Err, sym, ap, ◌∙◌, subst, IfOk, arith}
use Rattle.bv_base.specs.declared.place.Place.{Place}
use Rattle.bst_lex.specs.declared.lexeme.LexFault.{LexFault}
use Rattle.bst_lex.specs.declared.lexeme.Piece.{Piece}
use Rattle.bst_lex.specs.Lexemes.{Lexed, Reading, Seen, before, lexed_after, reading_at}
use Rattle.bst_lex.specs.Pieces.{gap_at, gap_length, piece_at}
use Rattle.bv_base.specs.Places.{after_bytes}
use Rattle.bst_lex.proofs.Passing.{lexed_from, gap_passed, gap_stops, piece_passed, fault_first}
use Rattle.bst_lex.proofs.Reaching.{Reaches, piece_reaches}

-- the reading of a source where these lexemes are left
abbrev reading : List ℕ → Lexed → Reading
reading source found = record { source = source; left = found.lexemes; fault = found.fault }

-- a position that is reached by so many bytes more
moved : (to : ℕ) (at : Place) (left : List ℕ) (count start : ℕ) (place : Place) (rest : List ℕ)
    → to ≡ start + count → at ≡ after_bytes (take count rest) place → left ≡ drop count rest
    → lexed_after 0 to at left ≡ lexed_from count start place rest
moved to at left count start place rest e f g =
    ap (λ n. lexed_after 0 n at left) e
    ∙ ap (λ p. lexed_after 0 (start + count) p left) f
    ∙ ap (λ bytes. lexed_after 0 (start + count) (after_bytes (take count rest) place) bytes) g

-- a gap is passed over
pub after_gap : (source : List ℕ) (failed : Option LexFault) (start : ℕ) (place : Place) (rest : List ℕ)
    (count to : ℕ) (at : Place) (left : List ℕ) (value : Reading)
    → reading_at source failed start place rest ≡ value
    → count ≡ gap_length false rest
    → to ≡ start + count → at ≡ after_bytes (take count rest) place → left ≡ drop count rest
    → reading_at source failed to at left ≡ value
after_gap source (Some fault) start place rest count to at left value is c e f g = is
after_gap source None start place rest count to at left value is c e f g =
    ap (reading source)
    (moved to at left count start place rest e f g
    ∙ ap (λ n. lexed_from n start place rest) c
    ∙ sym (gap_passed false start place rest))
    ∙ is

-- after a gap neither white space nor a comment stands first
pub gap_gone : (rest left : List ℕ) (count : ℕ) → count ≡ gap_length false rest → left ≡ drop count rest → gap_at left ≡ 0
gap_gone rest left count c g = ap gap_at g ∙ ap (λ n. gap_at (drop n rest)) c ∙ gap_stops false rest

-- nothing is left at the end
pub at_end : (source : List ℕ) (failed : Option LexFault) (start : ℕ) (place : Place) (rest : List ℕ) (value : Reading)
    → reading_at source failed start place rest ≡ value → failed ≡ None → length rest ≡ 0
    → record { source = source; left = []; fault = None } ≡ value
at_end source (Some fault) start place rest value is none end = cc
at_end source None start place [] value is none end = is
at_end source None start place (b ∷ rest) value is none end = absurd (omega arith)

-- a lexeme is taken
pub after_piece : (source : List ℕ) (failed : Option LexFault) (start : ℕ) (place : Place) (rest : List ℕ) (piece : Piece)
    (to : ℕ) (at : Place) (left : List ℕ) (value : Reading)
    → reading_at source failed start place rest ≡ value → failed ≡ None
    → gap_at rest ≡ 0 → piece_at place rest ≡ Ok piece → 0 < length rest
    → to ≡ start + piece.length → at ≡ after_bytes (take piece.length rest) place → left ≡ drop piece.length rest
    → value ≡ record {
      source = source;
      left = record { text = take piece.length rest; start = start; place = place; shape = piece.shape }
          ∷ (reading_at source failed to at left).left;
      fault = (reading_at source failed to at left).fault;
    }
after_piece source (Some fault) start place rest piece to at left value is none gap ok some e f g = cc
after_piece source None start place rest piece to at left value is none gap ok some e f g =
    let reaches : Reaches (length rest) piece =
    subst (λ r. IfOk r (Reaches (length rest))) ok (piece_reaches place rest gap some) in
    let taken : Seen = record { text = take piece.length rest; start = start; place = place; shape = piece.shape } in
    sym is
    ∙ ap (reading source)
    (piece_passed start place rest piece gap ok reaches.0 reaches.1
    ∙ ap (before taken) (sym (moved to at left piece.length start place rest e f g)))

-- a fault is found
pub at_fault : (source : List ℕ) (failed : Option LexFault) (start : ℕ) (place : Place) (rest : List ℕ) (fault : LexFault)
    (value : Reading)
    → reading_at source failed start place rest ≡ value → failed ≡ None
    → gap_at rest ≡ 0 → piece_at place rest ≡ Err fault → 0 < length rest
    → record { source = source; left = []; fault = Some fault } ≡ value
at_fault source (Some other) start place rest fault value is none gap err some = cc
at_fault source None start place rest fault value is none gap err some =
    sym (ap (reading source) (fault_first start place rest fault gap err some)) ∙ is

-- the source stays
pub source_kept : (source : List ℕ) (failed : Option LexFault) (start : ℕ) (place : Place) (rest : List ℕ) (value : Reading)
    → reading_at source failed start place rest ≡ value → source ≡ value.source
source_kept source (Some fault) start place rest value is = ap (λ (r : Reading). r.source) is
source_kept source None start place rest value is = ap (λ (r : Reading). r.source) is
