-- The names and the places of the faults of styles (docs/LANGUAGE.md, "Faults of styles").
use Rattle.std.specs.Prelude.{ℕ, List, codes}
use Rattle.bv_base.specs.declared.place.Place.{Place}
use Rattle.bst_lex.specs.Fault as lexical
use Rattle.bv_base.specs.Places.{first_place, StandsIn}
use Rattle.bst_parse.specs.declared.fault.StyleFault.{StyleFault}
use Rattle.bst_parse.specs.declared.fault.StyleFault.TheVariants.{Lex, UnknownCommand, UnknownName, SelfUse, AlreadyDefined, SecondEntry, SecondRead, ReadBeforeEntry, MacroAfterRead, CommandBeforeRead, NotCallable, Expected, EndOfFile, TooDeep, TooMany, NoMemory}

-- the name of a fault, as answers tell it; a fault of a lexeme has its own
abbrev pub name_of : StyleFault → List ℕ
name_of (Lex fault) = lexical.name_of fault
name_of (UnknownCommand place) = codes "UnknownCommand"
name_of (UnknownName place) = codes "UnknownName"
name_of (SelfUse place) = codes "SelfUse"
name_of (AlreadyDefined place) = codes "AlreadyDefined"
name_of (SecondEntry place) = codes "SecondEntry"
name_of (SecondRead place) = codes "SecondRead"
name_of (ReadBeforeEntry place) = codes "ReadBeforeEntry"
name_of (MacroAfterRead place) = codes "MacroAfterRead"
name_of (CommandBeforeRead place) = codes "CommandBeforeRead"
name_of (NotCallable place) = codes "NotCallable"
name_of (Expected place shape) = codes "Expected"
name_of (EndOfFile place) = codes "EndOfFile"
name_of (TooDeep place) = codes "TooDeep"
name_of (TooMany place) = codes "TooMany"
name_of NoMemory = codes "NoMemory"

-- the place of a fault; want of memory, which no answer tells, has the first
abbrev pub place_of : StyleFault → Place
place_of (Lex fault) = lexical.place_of fault
place_of (UnknownCommand place) = place
place_of (UnknownName place) = place
place_of (SelfUse place) = place
place_of (AlreadyDefined place) = place
place_of (SecondEntry place) = place
place_of (SecondRead place) = place
place_of (ReadBeforeEntry place) = place
place_of (MacroAfterRead place) = place
place_of (CommandBeforeRead place) = place
place_of (NotCallable place) = place
place_of (Expected place shape) = place
place_of (EndOfFile place) = place
place_of (TooDeep place) = place
place_of (TooMany place) = place
place_of NoMemory = first_place

-- a fault stands at a byte of its source or at its end; want of memory is no fault of a source
abbrev pub IsFaultOf : List ℕ → StyleFault → Type 0
IsFaultOf source NoMemory = ⊥
IsFaultOf source fault = StandsIn source (place_of fault)
