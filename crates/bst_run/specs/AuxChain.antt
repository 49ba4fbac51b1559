-- The .aux file of a run and its inputs (docs/COMMANDS.md, "The files of a run").
use Rattle.std.specs.Prelude.{ℕ, zero, suc, List, [], ◌∷◌, ◌++◌, Option, None, Some, Result, Ok, Err}
use Rattle.bv_base.specs.Outside.{Listing}
use Rattle.aux_read.specs.declared.aux.Aux.{Aux}
use Rattle.aux_read.specs.declared.aux.AuxItem.{AuxItem}
use Rattle.aux_read.specs.declared.aux.AuxItem.TheVariants.{Input}
use Rattle.aux_read.specs.declared.fault.AuxFault.{AuxFault}
use Rattle.aux_read.specs.Reading.{aux_of}
use Rattle.bv_base.specs.Places.{after_bytes, first_place}
use Rattle.bv_base.specs.Answers.{then_do}
use Rattle.bv_base.specs.declared.limits.TheConstants.{DATA_BYTES}
use Rattle.bst_run.specs.declared.data_fault.DataFault.{DataFault}
use Rattle.bst_run.specs.declared.data_fault.DataFault.TheVariants.{Aux as AuxFile, NoStyle, NoData}
use Rattle.bst_run.specs.declared.files.requests.Needs.{Needs}
use Rattle.bst_run.specs.declared.files.requests.Requests.{Requests}
use Rattle.bst_run.specs.Files.{file_in}
use Rattle.bst_run.specs.declared.outcome.Outcome.{Outcome}
use Rattle.bst_run.specs.Report.{bad_data}
use Rattle.bst_run.specs.Requests.{nothing, first_style, first_databases, fault_after}

-- what a file that was read asks for
abbrev pub read_aux : List ℕ → Result Aux AuxFault → Result Aux Outcome
read_aux name (Ok aux) = Ok aux
read_aux name (Err fault) = Err (bad_data name (AuxFile fault))

-- what the bytes of a file ask for by themselves
abbrev pub aux_in : List ℕ → List ℕ → Result Aux Outcome
aux_in name text = read_aux name (aux_of text)

-- a citation comes last
abbrev pub with_item : AuxItem → Requests → Requests
with_item item requests = record requests { items = requests.items ++ item ∷ [] }

-- the items of a file in order; an input takes its place among the citations
abbrev pub take_items : (List ℕ → Requests → Result Requests Outcome) → List AuxItem → Requests → Result Requests Outcome
take_items input [] requests = Ok requests
take_items input (Input name place ∷ items) requests = then_do (input name requests) (take_items input items)
take_items input (item ∷ items) requests = take_items input items (with_item item requests)

-- the names that a file adds to those before it
abbrev pub with_names : Aux → Requests → Requests
with_names aux requests =
    record requests { style = first_style requests.style aux.style; databases = first_databases requests.databases aux.databases }

-- what is wanted where a file has no fault after those before it
abbrev pub unless_faulty : List ℕ → Option DataFault → Result Requests Outcome → Result Requests Outcome
unless_faulty name None wanted = wanted
unless_faulty name (Some fault) wanted = Err (bad_data name fault)

-- a file, after what was asked for before it, where so many levels of inputs may lie below it
abbrev pub take_aux : ℕ → (List ℕ → Requests → Result Requests Outcome) → List ℕ → Requests → Aux → Result Requests Outcome
take_aux levels input name before aux =
    unless_faulty name (fault_after levels before aux) (take_items input aux.items (with_names aux before))

-- what the file of this name asks for by itself
abbrev pub aux_file : Listing → List ℕ → Result Aux Outcome
aux_file told name = then_do (file_in told DATA_BYTES name) (aux_in name)

-- an input, which is one of so many levels that may lie below the file that names it; where there is none, that file is at fault
abbrev pub take_input : ℕ → Listing → List ℕ → Requests → Result Requests Outcome
take_input zero told name before = Ok before
take_input (suc levels) told name before =
    then_do (aux_file told name) (take_aux levels (take_input levels told) name before)

-- a style and databases are named, or the first file is at fault at its end
abbrev pub complete_by : List ℕ → List ℕ → List AuxItem → Option (List ℕ) → List (List ℕ) → Result Needs Outcome
complete_by name text items None databases = Err (bad_data name (NoStyle (after_bytes text first_place)))
complete_by name text items (Some style) [] = Err (bad_data name (NoData (after_bytes text first_place)))
complete_by name text items (Some style) (first ∷ rest) = Ok (record { items = items; style = style; databases = first ∷ rest })

-- what all files ask for is all that a run needs
abbrev pub complete : List ℕ → List ℕ → Requests → Result Needs Outcome
complete name text requests = complete_by name text requests.items requests.style requests.databases

-- a first file, below which so many levels of inputs may lie
abbrev pub needs_within : ℕ → Listing → List ℕ → List ℕ → Result Needs Outcome
needs_within levels told name text =
    then_do (aux_in name text) (λ aux.
    then_do (take_aux levels (take_input levels told) name nothing aux) (complete name text))

-- inputs nest at most 16 deep below the first file
unfoldable pub needs_after : Listing → List ℕ → List ℕ → Result Needs Outcome
needs_after told name text = needs_within 16 told name text

-- what the .aux file of this name and its inputs ask for
abbrev pub needs_of : Listing → List ℕ → Result Needs Outcome
needs_of told name = then_do (file_in told DATA_BYTES name) (needs_after told name)
