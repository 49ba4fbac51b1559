-- Files that are read whole (docs/COMMANDS.md, "The files of a run").
use Rattle.std.specs.Prelude.{ℕ, nat_eq, nat_lt, if◌then◌else◌, List, ◌++◌, length, Option, None, Some, Result, Ok, Err}
use Rattle.std.specs.FinMap.{get}
use Rattle.std.specs.List.{ends_with}
use Rattle.bv_base.specs.Outside.{Listing}
use Rattle.bst_run.specs.declared.outcome.Outcome.{Outcome}
use Rattle.bst_run.specs.Report.{absent, too_long}

-- the bytes of a file that is there and has at most so many
abbrev pub whole_file : ℕ → List ℕ → Option (List ℕ) → Result (List ℕ) Outcome
whole_file limit name None = Err (absent name)
whole_file limit name (Some bytes) = if nat_lt limit (length bytes) then Err (too_long name) else Ok bytes

-- the bytes of the file of this name
abbrev pub file_in : Listing → ℕ → List ℕ → Result (List ℕ) Outcome
file_in told limit name = whole_file limit name (get told name)

-- the name of a file, which ends so
abbrev pub with_ending : List ℕ → List ℕ → List ℕ
with_ending name ending = if ends_with nat_eq name ending then name else name ++ ending
