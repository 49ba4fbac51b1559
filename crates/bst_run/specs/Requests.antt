-- What .aux files ask for together, and the faults that a file has after those before it (docs/COMMANDS.md, "The files of a
-- run").
use Rattle.std.specs.Prelude.{ℕ, zero, suc, nat_lt, if◌then◌else◌, List, [], ◌∷◌, Option, None, Some}
use Rattle.aux_read.specs.declared.aux.Aux.{Aux}
use Rattle.aux_read.specs.declared.aux.AuxItem.{AuxItem}
use Rattle.aux_read.specs.declared.aux.AuxItem.TheVariants.{Input}
use Rattle.aux_read.specs.declared.fault.AuxFault.TheVariants.{SecondStyle, SecondData}
use Rattle.bst_run.specs.declared.data_fault.DataFault.{DataFault}
use Rattle.bst_run.specs.declared.data_fault.DataFault.TheVariants.{Aux as AuxFile, TooDeep}
use Rattle.bst_run.specs.declared.files.requests.Requests.{Requests}
use Rattle.bst_run.specs.DataFaults.{place_of}

-- before the first file
abbrev pub nothing : Requests
nothing = record { items = []; style = None; databases = [] }

-- the style that was named before, or else the one that a file names
abbrev pub first_style : Option (List ℕ) → Option (List ℕ) → Option (List ℕ)
first_style None found = found
first_style (Some style) found = Some style

-- the same of databases
abbrev pub first_databases : List (List ℕ) → List (List ℕ) → List (List ℕ)
first_databases [] found = found
first_databases (first ∷ rest) found = first ∷ rest

-- a style is named, and one was named before
abbrev pub second_style_by : Option (List ℕ) → Option (List ℕ) → Aux → Option DataFault
second_style_by (Some before) (Some style) aux = Some (AuxFile (SecondStyle aux.style_place))
second_style_by before found aux = None

-- a second style
abbrev pub second_style : Requests → Aux → Option DataFault
second_style before aux = second_style_by before.style aux.style aux

-- databases are named, and some were named before
abbrev pub second_databases_by : List (List ℕ) → List (List ℕ) → Aux → Option DataFault
second_databases_by (before ∷ _) (database ∷ _) aux = Some (AuxFile (SecondData aux.data_place))
second_databases_by before found aux = None

-- a second time databases
abbrev pub second_databases : Requests → Aux → Option DataFault
second_databases before aux = second_databases_by before.databases aux.databases aux

-- the first input
abbrev pub first_input : List AuxItem → Option DataFault
first_input [] = None
first_input (Input name place ∷ items) = Some (TooDeep place)
first_input (item ∷ items) = first_input items

-- the first input, where no level is left for it
abbrev pub too_deep : ℕ → List AuxItem → Option DataFault
too_deep zero items = first_input items
too_deep (suc levels) items = None

-- of two faults the one that stands first; each stands at the start of a line of its own
abbrev pub first_of : DataFault → Option DataFault → DataFault
first_of a None = a
first_of a (Some b) = if nat_lt (place_of b).line (place_of a).line then b else a

-- the one of two faults that stands first
abbrev pub first_fault : Option DataFault → Option DataFault → Option DataFault
first_fault None b = b
first_fault (Some a) b = Some (first_of a b)

-- the fault of a file after those before it, where so many levels of inputs may lie below it
abbrev pub fault_after : ℕ → Requests → Aux → Option DataFault
fault_after levels before aux =
    first_fault (first_fault (second_style before aux) (second_databases before aux)) (too_deep levels aux.items)
