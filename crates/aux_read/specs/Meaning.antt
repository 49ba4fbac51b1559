-- What the lines of an `.aux` file mean, one after the other (docs/DATA.md, "The .aux file").
use Rattle.std.specs.Prelude.{◌≡◌, ℕ, ◌+◌, nat_eq, if◌then◌else◌, List, [], ◌∷◌, ◌++◌, length, map, is_some, Option, None, Some}
use Rattle.std.specs.Option.{option_and_then}
use Rattle.bv_base.specs.declared.place.Place.{Place}
use Rattle.aux_read.specs.declared.aux.Aux.{Aux}
use Rattle.aux_read.specs.declared.aux.AuxItem.TheVariants.{Input as InputItem}
use Rattle.aux_read.specs.Grammar.{Line, Citations, Databases, Style, Input, Other, Spells}
use Rattle.aux_read.specs.Lines.{citation, nothing, with_item}

-- where the line of this number starts
abbrev pub start_of : ℕ → Place
start_of number = record { line = number; column = 1 }

-- what is asked for after the line of this number; there is nothing where a second line names databases or a style
abbrev pub and_line : ℕ → Line → Aux → Option Aux
and_line number (Citations items) aux = Some (record aux { items = aux.items ++ map citation items })
and_line number (Databases names) aux =
    if nat_eq (length aux.databases) 0 then Some (record aux { databases = names; data_place = start_of number }) else None
and_line number (Style name) aux =
    if is_some aux.style then None else Some (record aux { style = Some name; style_place = start_of number })
and_line number (Input name) aux = Some (with_item (InputItem name (start_of number)) aux)
and_line number Other aux = Some aux

-- what is asked for after lines, the first of which has this number
abbrev pub and_lines : ℕ → List Line → Aux → Option Aux
and_lines number [] aux = Some aux
and_lines number (line ∷ lines) aux = option_and_then (and_lines (number + 1) lines) (and_line number line aux)

-- a text asks for this: it spells lines, and these ask for it, the first of which has the number 1
pub record AuxReads (source : List ℕ) (aux : Aux) : Type 0 where
  pub lines : List Line
  pub spelled : Spells lines source
  pub meant : and_lines 1 lines nothing ≡ Some aux
