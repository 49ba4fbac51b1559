-- The faults of an `.aux` file: their names and places (docs/COMMANDS.md, "Faults of data"; docs/DATA.md, "Faults of an
-- .aux file").
use Rattle.std.specs.Prelude.{ℕ, List, codes}
use Rattle.bv_base.specs.Places.{StandsIn, first_place}
use Rattle.bv_base.specs.declared.place.Place.{Place}
use Rattle.aux_read.specs.declared.fault.AuxFault.{AuxFault}
use Rattle.aux_read.specs.declared.fault.AuxFault.TheVariants.{BadCommand, SecondStyle, SecondData, NoMemory}

-- the name that a last line tells
abbrev pub name_of : AuxFault → List ℕ
name_of (BadCommand place) = codes "BadCommand"
name_of (SecondStyle place) = codes "SecondStyle"
name_of (SecondData place) = codes "SecondData"
name_of NoMemory = codes "NoMemory"

-- where a fault stands; want of memory, which no answer tells, has the first place
abbrev pub place_of : AuxFault → Place
place_of (BadCommand place) = place
place_of (SecondStyle place) = place
place_of (SecondData place) = place
place_of NoMemory = first_place

-- a fault stands at a byte of its text or at its end; want of memory is no fault of a text
abbrev pub IsFaultOf : List ℕ → AuxFault → Type 0
IsFaultOf source NoMemory = ⊥
IsFaultOf source fault = StandsIn source (place_of fault)
