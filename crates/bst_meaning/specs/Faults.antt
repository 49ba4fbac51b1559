-- The names of execution errors (docs/MACHINE.md, "The built-in functions").
use Rattle.std.specs.Prelude.{ℕ, List, codes}
use Rattle.bst_meaning.specs.declared.fault.Fault.{Fault}
use Rattle.bst_meaning.specs.declared.fault.Fault.TheVariants.{EmptyPop, WrongKind, NotVariable, NoEntry, BadCase, NotOneByte, NotAscii, BadNameIndex, BadName, BadPattern, IntRange, StackLeft}

-- the name that a last line tells
abbrev pub name_of : Fault → List ℕ
name_of EmptyPop = codes "EmptyPop"
name_of WrongKind = codes "WrongKind"
name_of NotVariable = codes "NotVariable"
name_of NoEntry = codes "NoEntry"
name_of BadCase = codes "BadCase"
name_of NotOneByte = codes "NotOneByte"
name_of NotAscii = codes "NotAscii"
name_of BadNameIndex = codes "BadNameIndex"
name_of BadName = codes "BadName"
name_of BadPattern = codes "BadPattern"
name_of IntRange = codes "IntRange"
name_of StackLeft = codes "StackLeft"
