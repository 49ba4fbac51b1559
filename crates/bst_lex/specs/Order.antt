-- How the lexemes of a source stand in it (docs/LANGUAGE.md, "Lexemes").
use Rattle.std.specs.Prelude.{◌≡◌, ℕ, ◌+◌, ◌-◌, ◌<◌, ◌≤◌, List, [], ◌∷◌, length, take, drop}
use Rattle.bst_lex.specs.Grammar.{Space, spaces}
use Rattle.bst_lex.specs.Lexemes.{Seen}
use Rattle.bv_base.specs.Places.{place_at}

-- a lexeme is a slice of its source, at the place of its first byte; between what was read before and the lexeme
-- stand white space and comments alone
pub record IsNext (source : List ℕ) (from : ℕ) (lexeme : Seen) : Type 0 where
  pub after : from ≤ lexeme.start
  pub gap : List Space
  pub between : take (lexeme.start - from) (drop from source) ≡ spaces gap
  pub some : 0 < length lexeme.text
  pub within : lexeme.start + length lexeme.text ≤ length source
  pub slice : lexeme.text ≡ take (length lexeme.text) (drop lexeme.start source)
  pub place_is : lexeme.place ≡ place_at source lexeme.start

-- each lexeme stands next after the one before it
abbrev pub InOrder : List ℕ → ℕ → List Seen → Type 0
InOrder source from [] = Unit {0}
InOrder source from (lexeme ∷ lexemes) =
    IsNext source from lexeme × InOrder source (lexeme.start + length lexeme.text) lexemes
