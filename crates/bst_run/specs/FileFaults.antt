-- Where the faults of the .aux files of a run stand (docs/COMMANDS.md, "Faults of data").
use Rattle.std.specs.Prelude.{◌≡◌, ℕ, ◌<◌, List, length, None, Some}
use Rattle.std.specs.FinMap.{get}
use Rattle.bv_base.specs.Outside.{Listing}
use Rattle.bv_base.specs.Places.{StandsIn}
use Rattle.bv_base.specs.declared.limits.TheConstants.{DATA_BYTES}
use Rattle.aux_read.specs.Faults as aux
use Rattle.bst_run.specs.declared.data_fault.DataFault.{DataFault}
use Rattle.bst_run.specs.declared.data_fault.DataFault.TheVariants.{Aux}
use Rattle.bst_run.specs.declared.outcome.Outcome.{Outcome}
use Rattle.bst_run.specs.DataFaults.{place_of}
use Rattle.bst_run.specs.Report.{absent, too_long, bad_data}

-- a fault stands at a byte of its text or at its end; want of memory is no fault of a text
abbrev pub IsFaultOf : List ℕ → DataFault → Type 0
IsFaultOf text (Aux fault) = aux.IsFaultOf text fault
IsFaultOf text fault = StandsIn text (place_of fault)

-- an outcome names a file that isn't there or is too long, or one that is at fault where the fault stands in its text
pub data IsFileFault (told : Listing) (outcome : Outcome) : Type 0 where
  Missing : (name : List ℕ) → get told name ≡ None → outcome ≡ absent name → IsFileFault told outcome
  Long : (name text : List ℕ) → get told name ≡ Some text → DATA_BYTES < length text → outcome ≡ too_long name → IsFileFault told outcome
  Faulty : (name text : List ℕ) (fault : DataFault) → get told name ≡ Some text → IsFaultOf text fault → outcome ≡ bad_data name fault
      → IsFileFault told outcome
