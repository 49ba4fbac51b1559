-- The faults of a `.bib` file: their names and places (docs/COMMANDS.md, "Faults of data"; docs/DATA.md, "Faults of a
-- .bib file").
use Rattle.std.specs.Prelude.{◌≡◌, ℕ, List, codes}
use Rattle.bv_base.specs.Places.{StandsIn, after_bytes, first_place}
use Rattle.bv_base.specs.declared.place.Place.{Place}
use Rattle.bib_read.specs.declared.fault.BibFault.{BibFault}
use Rattle.bib_read.specs.declared.fault.BibFault.TheVariants.{Expected, EndOfFile, Unbalanced, RepeatedKey, NoMemory}

-- the name that a last line tells
abbrev pub name_of : BibFault → List ℕ
name_of (Expected place) = codes "Expected"
name_of (EndOfFile place) = codes "EndOfFile"
name_of (Unbalanced place) = codes "Unbalanced"
name_of (RepeatedKey place) = codes "RepeatedKey"
name_of NoMemory = codes "NoMemory"

-- where a fault stands; want of memory, which no answer tells, has the first place
abbrev pub place_of : BibFault → Place
place_of (Expected place) = place
place_of (EndOfFile place) = place
place_of (Unbalanced place) = place
place_of (RepeatedKey place) = place
place_of NoMemory = first_place

-- a fault stands in the text or at its end
abbrev pub FaultStandsIn : List ℕ → BibFault → Type 0
FaultStandsIn source (Expected place) = StandsIn source place
FaultStandsIn source (EndOfFile place) = place ≡ after_bytes source first_place
FaultStandsIn source (Unbalanced place) = StandsIn source place
FaultStandsIn source (RepeatedKey place) = StandsIn source place
FaultStandsIn source NoMemory = Unit {0}
