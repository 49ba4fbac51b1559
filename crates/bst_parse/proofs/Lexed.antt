-- How many lexemes a text has, and what each of them is.
use Rattle.std.proofs.Common.{◌≡◌, ℕ, zero, suc, ◌+◌, ◌-◌, ◌≤◌, Bool, true, false, List, [], ◌∷◌, Option, Ok, Err, length, refl, sym, subst, arith}
use Rattle.std.specs.Prelude.{ℤ}
use Rattle.std.proofs.lemmas.Bool.{le-leb}
use Rattle.std.proofs.lemmas.List.{length-take}
use Rattle.bv_base.specs.declared.place.Place.{Place}
use Rattle.bv_base.specs.declared.limits.TheConstants.{STYLE_BYTES}
use Rattle.bv_base.specs.Places.{after_byte, after_bytes}
use Rattle.bv_base.specs.Runs.{number_from}
use Rattle.name_table.specs.Numbers.{IsByteList, has_32_bits}
use Rattle.name_table.specs.Sound.{Each}
use Rattle.name_table.proofs.ByteLists.{bytes_taken}
use Rattle.bst_lex.specs.declared.lexeme.LexFault.{LexFault}
use Rattle.bst_lex.specs.declared.lexeme.Shape.{Shape}
use Rattle.bst_lex.specs.declared.lexeme.Shape.TheVariants.{OpenBrace, CloseBrace, Integer, Text, Quoted, Name}
use Rattle.bst_lex.specs.Grammar.{IsLexeme, Spells, greatest}
use Rattle.bst_lex.specs.Lexemes.{Lexed, Seen, begun, lexed_after}
use Rattle.bst_lex.specs.Pieces.{gap_at, piece_at, signed}

-- a text is of bytes, and no longer than a style
pub record TextFine (text : List ℕ) : Type 0 where
  pub short : length text ≤ STYLE_BYTES
  pub bytes : IsByteList text

-- at most `many` lexemes, of fine texts
pub record AreFine (many : ℕ) (found : Lexed) : Type 0 where
  pub few : length found.lexemes ≤ many
  pub texts : Each (λ l. TextFine l.text) found.lexemes

begun_fine : (many gap : ℕ) (piece : _) (start : ℕ) (place : Place) (bytes : List ℕ) (after : ℕ → Lexed)
    → length bytes ≤ STYLE_BYTES → IsByteList bytes → ((pass : ℕ) → AreFine many (after pass))
    → AreFine (suc many) (begun gap piece start place bytes after)
begun_fine many (suc more) piece start place bytes after small fine rest =
    record { few = omega (arith, (rest more).few); texts = (rest more).texts }
begun_fine many zero (Ok piece) start place bytes after small fine rest =
    let behind = rest (piece.length - 1) in
    record {
      few = omega (arith, behind.few);
      texts = (
        record { short = omega (arith, length-take piece.length bytes); bytes = bytes_taken piece.length bytes fine },
        behind.texts,
      );
    }
begun_fine many zero (Err fault) start place bytes after small fine rest = record { few = omega arith; texts = tt }

pub lexed_fine : (bytes : List ℕ) (pass start : ℕ) (place : Place) → length bytes ≤ STYLE_BYTES → IsByteList bytes
    → AreFine (length bytes) (lexed_after pass start place bytes)
lexed_fine [] zero start place small fine = record { few = omega arith; texts = tt }
lexed_fine [] (suc pass) start place small fine = record { few = omega arith; texts = tt }
lexed_fine (b ∷ bytes) (suc pass) start place small fine =
    let rest = lexed_fine bytes pass (start + 1) (after_byte b place) (omega arith) fine.1 in
    record { few = omega (arith, rest.few); texts = rest.texts }
lexed_fine (b ∷ bytes) zero start place small fine =
    begun_fine (length bytes) (gap_at (b ∷ bytes)) (piece_at place (b ∷ bytes)) start place (b ∷ bytes)
    (λ pass. lexed_after pass (start + 1) (after_byte b place) bytes) small fine
    (λ pass. lexed_fine bytes pass (start + 1) (after_byte b place) (omega arith) fine.1)

-- an integer has 32 bits
abbrev pub IsShapeSmall : Shape → Type 0
IsShapeSmall (Integer n) = has_32_bits n ≡ true
IsShapeSmall _ = Unit {0}

signed_small : (minus : Bool) (n : ℕ) → n ≤ greatest minus → has_32_bits (signed minus n) ≡ true
signed_small true zero h = refl
signed_small true (suc n) h = le-leb n 2147483647 (omega arith)
signed_small false n h = le-leb n 2147483647 h

shape_small : (shape : Shape) (text rest : List ℕ) → IsLexeme shape text rest → IsShapeSmall shape
shape_small (Integer n) text rest (minus, digits, spelled, least, is, follows) =
    subst (λ (k : ℤ). has_32_bits k ≡ true) (sym is) (signed_small minus (number_from 0 digits) least)
shape_small OpenBrace text rest h = tt
shape_small CloseBrace text rest h = tt
shape_small Text text rest h = tt
shape_small Quoted text rest h = tt
shape_small Name text rest h = tt

-- the integers of a text have 32 bits
pub spelled_small : (start : ℕ) (place : Place) (bytes : List ℕ) (lexemes : List Seen) (fault : Option LexFault)
    → Spells start place bytes lexemes fault → Each (λ l. IsShapeSmall l.shape) lexemes
spelled_small start place bytes [] fault spells = tt
spelled_small start place bytes (l ∷ lexemes) fault (gap, rest, is, rule, start_is, place_is, lexeme_is, more) = (
  shape_small l.shape l.text rest lexeme_is,
  spelled_small (l.start + length l.text) (after_bytes l.text l.place) rest lexemes fault more,
)
