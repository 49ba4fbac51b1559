-- The lexemes of a text, and the fault that ends them (docs/LANGUAGE.md, "Lexemes").
use Rattle.std.specs.Prelude.{ℕ, zero, suc, ◌+◌, ◌-◌, List, [], ◌∷◌, take, Option, None, Some, Result, Ok, Err}
use Rattle.bv_base.specs.declared.place.Place.{Place}
use Rattle.bst_lex.specs.declared.lexeme.Lexeme.{Lexeme}
use Rattle.bst_lex.specs.declared.lexeme.LexFault.{LexFault}
use Rattle.bst_lex.specs.declared.lexeme.Piece.{Piece}
use Rattle.bst_lex.specs.declared.lexeme.Shape.{Shape}
use Rattle.bst_lex.specs.Pieces.{gap_at, piece_at}
use Rattle.bv_base.specs.Places.{after_byte, first_place}

-- a lexeme, without where it lies in memory
pub record Seen : Type 0 where
  pub text : List ℕ
  pub start : ℕ
  pub place : Place
  pub shape : Shape

-- what contracts see of a lexeme
abbrev pub seen : Lexeme → Seen
seen lexeme = record { text = lexeme.text.now; start = lexeme.start; place = lexeme.place; shape = lexeme.shape }

-- a source, the lexemes that are left of it, and the fault that ends them, if any
pub record Reading : Type 0 where
  pub source : List ℕ
  pub left : List Seen
  pub fault : Option LexFault

-- the lexemes of some bytes, and the fault that ends them
pub record Lexed : Type 0 where
  pub lexemes : List Seen
  pub fault : Option LexFault

-- a lexeme before others
abbrev pub before : Seen → Lexed → Lexed
before lexeme others = record { lexemes = lexeme ∷ others.lexemes; fault = others.fault }

-- what stands first in some bytes: white space or a comment, which is passed over, a lexeme, or a fault, which
-- ends all; `after` gives the lexemes after so many bytes more than one
abbrev pub begun : ℕ → Result Piece LexFault → ℕ → Place → List ℕ → (ℕ → Lexed) → Lexed
begun (suc more) piece start place bytes after = after more
begun zero (Ok piece) start place bytes after =
    before
    (record { text = take piece.length bytes; start = start; place = place; shape = piece.shape })
    (after (piece.length - 1))
begun zero (Err fault) start place bytes after = record { lexemes = []; fault = Some fault }

-- the lexemes of some bytes, of which the first is the byte `start` of its source and stands at `place`; so many
-- bytes are passed over, with which something ends that began before
abbrev pub lexed_after : ℕ → ℕ → Place → List ℕ → Lexed
lexed_after pass start place [] = record { lexemes = []; fault = None }
lexed_after (suc pass) start place (b ∷ bytes) = lexed_after pass (start + 1) (after_byte b place) bytes
lexed_after zero start place (b ∷ bytes) =
    begun (gap_at (b ∷ bytes)) (piece_at place (b ∷ bytes)) start place (b ∷ bytes)
    (λ pass. lexed_after pass (start + 1) (after_byte b place) bytes)

-- what is left of a source from one of its bytes on; after a fault nothing but the fault
abbrev pub reading_at : List ℕ → Option LexFault → ℕ → Place → List ℕ → Reading
reading_at source (Some fault) start place rest = record { source = source; left = []; fault = Some fault }
reading_at source None start place rest =
    let found = lexed_after 0 start place rest in
    record { source = source; left = found.lexemes; fault = found.fault }

-- a whole source, with all its lexemes left
abbrev pub lexed : List ℕ → Reading
lexed source = reading_at source None 0 first_place source
