-- How the reader's fields stand for what is left of its source.
use Rattle.std.specs.Prelude.{◌≡◌, ℕ, ◌+◌, ◌≤◌, List, length, drop}
use Rattle.bv_base.specs.declared.limits.TheConstants.{STYLE_BYTES}
use Rattle.bv_base.specs.declared.place.Place.{Place}
use Rattle.bst_lex.specs.declared.lexer.Lexer.TheInside.{Inside}
use Rattle.bst_lex.specs.Lexemes.{Reading, reading_at}
use Rattle.bv_base.specs.Places.{place_at}

-- what is left of the source from the cursor on
abbrev pub reading_of : Inside → Reading
reading_of l = reading_at l.source.now l.failed l.cursor.start l.cursor.place l.cursor.rest.now

-- what is left of a source after `start` of its bytes, and the place of the next byte
pub record Stands (source : List ℕ) (start : ℕ) (place : Place) (rest : List ℕ) : Type 0 where
  pub small : length source ≤ STYLE_BYTES
  pub within : start ≤ length source
  pub rest_is : rest ≡ drop start source
  pub place_is : place ≡ place_at source start
  pub line : place.line ≤ start + 1
  pub column : place.column ≤ start + 1

-- the cursor stands within the source
abbrev pub IsWithin : Inside → Type 0
IsWithin l = Stands l.source.now l.cursor.start l.cursor.place l.cursor.rest.now
