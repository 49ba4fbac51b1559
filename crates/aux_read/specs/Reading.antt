-- What an `.aux` file asks for, or its first fault (docs/DATA.md, "The .aux file").
use Rattle.std.specs.Prelude.{ℕ, ◌+◌, List, [], ◌∷◌, Result, Ok}
use Rattle.bstr.specs.Text.{lines_of}
use Rattle.bv_base.specs.declared.place.Place.{Place}
use Rattle.bv_base.specs.Answers.{then_do}
use Rattle.bv_base.specs.Places.{first_place}
use Rattle.aux_read.specs.declared.aux.Aux.{Aux}
use Rattle.aux_read.specs.declared.fault.AuxFault.{AuxFault}
use Rattle.aux_read.specs.Lines.{nothing, take_line}

-- the start of the line after the one that starts at a place
abbrev pub next_line : Place → Place
next_line place = record place { line = place.line + 1 }

-- the lines from a place on, one after the other; the first fault ends the reading
abbrev pub reading : Place → List (List ℕ) → Aux → Result Aux AuxFault
reading place [] aux = Ok aux
reading place (line ∷ rest) aux = then_do (take_line place line aux) (reading (next_line place) rest)

-- what the lines of a text ask for
abbrev pub aux_of : List ℕ → Result Aux AuxFault
aux_of source = reading first_place (lines_of source) nothing
