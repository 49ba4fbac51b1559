-- The names and the places of lexical faults (docs/LANGUAGE.md, "Faults of styles").
use Rattle.std.specs.Prelude.{ℕ, List, codes}
use Rattle.bv_base.specs.declared.place.Place.{Place}
use Rattle.bst_lex.specs.declared.lexeme.LexFault.{LexFault}
use Rattle.bst_lex.specs.declared.lexeme.LexFault.TheVariants.{NoEndQuote, BadInteger, StuffAfterToken, IllegalByte, IntegerRange}

-- the name of a fault, as answers tell it
abbrev pub name_of : LexFault → List ℕ
name_of (NoEndQuote place) = codes "NoEndQuote"
name_of (BadInteger place) = codes "BadInteger"
name_of (StuffAfterToken place) = codes "StuffAfterToken"
name_of (IllegalByte place) = codes "IllegalByte"
name_of (IntegerRange place) = codes "IntegerRange"

-- the place of a fault
abbrev pub place_of : LexFault → Place
place_of (NoEndQuote place) = place
place_of (BadInteger place) = place
place_of (StuffAfterToken place) = place
place_of (IllegalByte place) = place
place_of (IntegerRange place) = place
