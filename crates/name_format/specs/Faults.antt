-- What a fault says of a name and a pattern (docs/NAMES.md, "Formatting").
use Rattle.std.specs.Prelude.{◌≡◌, ℕ, List, Result, Err, IsOk}
use Rattle.name_format.specs.declared.format.FormatFault.{FormatFault}
use Rattle.name_format.specs.declared.format.FormatFault.TheVariants.{BadNameIndex, BadName, BadPattern, NoMemory}
use Rattle.name_split.specs.Formatted.{Misfit, BadNameIndex as WrongIndex, BadName as WrongName, BadPattern as WrongPattern}

-- the fault is the misfit; memory can want only where there is a text to write
abbrev pub IsFaultOf : FormatFault → Result (List ℕ) Misfit → Type 0
IsFaultOf BadNameIndex answer = answer ≡ Err WrongIndex
IsFaultOf BadName answer = answer ≡ Err WrongName
IsFaultOf BadPattern answer = answer ≡ Err WrongPattern
IsFaultOf NoMemory answer = IsOk answer
