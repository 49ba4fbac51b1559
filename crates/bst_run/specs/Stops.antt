-- Where a command stops, and what each stop stands for (docs/COMMANDS.md, "Answers").
use Rattle.std.specs.Prelude.{◌≡◌, ℕ, [], Option, None, Some, IfSome, Result, Ok, Err}
use Rattle.std.specs.String.{string_bytes}
use Rattle.bv_base.specs.Outside.{Listing, Rose, opened, missing}
use Rattle.bv_base.specs.declared.files.Begun.{Begun}
use Rattle.bv_base.specs.declared.status.Status.{Status}
use Rattle.bv_base.specs.declared.status.Status.TheVariants as status
use Rattle.bst_run.specs.declared.outcome.Outcome.{Outcome}
use Rattle.bst_run.specs.declared.stop.Stop.{Stop}
use Rattle.bst_run.specs.declared.stop.Stop.TheVariants.{Told, Absent, Failed, TooLong, NoMemory}
use Rattle.bst_run.specs.Report.{absent, unread, too_long}

-- the outcome that a stop stands for; failing to read and want of memory stand for none
abbrev pub outcome_of : Stop → Option Outcome
outcome_of (Told outcome) = Some outcome
outcome_of (Absent name) = Some (absent (string_bytes name))
outcome_of (Failed name) = None
outcome_of (TooLong name) = Some (too_long (string_bytes name))
outcome_of NoMemory = None

-- what a call gives where the files tell: the value that is wanted of them, or a stop that stands for the outcome that is wanted
abbrev pub Gives : {A : Type 0} → Option Listing → (Listing → Result A Outcome) → Result A Stop → Type 0
Gives told wanted (Ok value) = IfSome told (λ t. wanted t ≡ Ok value)
Gives told wanted (Err stop) = IfSome told (λ t. IfSome (outcome_of stop) (λ outcome. wanted t ≡ Err outcome))

-- the same of what needs no files
abbrev pub Decides : {A : Type 0} → Result A Outcome → Result A Stop → Type 0
Decides wanted (Ok value) = wanted ≡ Ok value
Decides wanted (Err stop) = IfSome (outcome_of stop) (λ outcome. wanted ≡ Err outcome)

-- a status that the bytes of the files decide, and neither the words nor the outside
abbrev pub IsDecided : Status → Type 0
IsDecided status.Usage = ⊥
IsDecided status.NoFile = ⊥
IsDecided status.ReadFailed = ⊥
IsDecided status.WriteFailed = ⊥
IsDecided status.NoMemory = ⊥
IsDecided _ = Unit {0}

-- one of them that isn't the answer of a certificate that is accepted or found, or of a run
abbrev pub IsRefusing : Status → Type 0
IsRefusing status.Done = ⊥
IsRefusing status.Fault = ⊥
IsRefusing status.Budget = ⊥
IsRefusing given = IsDecided given

-- an outcome that the bytes of the files decide, which stops a command and has nothing for standard output
abbrev pub IsRefusal : Outcome → Type 0
IsRefusal outcome = (outcome.out ≡ []) × IsRefusing outcome.status

-- what the outside shows of a stop
abbrev pub HasCause : Stop → Option Begun → ℕ → ℕ → Type 0
HasCause (Told outcome) begun faults faults' = IsRefusal outcome
HasCause (Absent name) begun faults faults' = begun ≡ Some (missing (string_bytes name))
HasCause (Failed name) begun faults faults' = (begun ≡ Some (opened (string_bytes name))) × Rose faults faults'
HasCause (TooLong name) begun faults faults' = begun ≡ Some (opened (string_bytes name))
HasCause NoMemory begun faults faults' = Unit {0}

-- a stop that no file causes
abbrev pub IsInside : Stop → Type 0
IsInside (Told outcome) = IsRefusal outcome
IsInside NoMemory = Unit {0}
IsInside _ = ⊥

-- the outcome that a command's result comes to; want of memory comes to none
abbrev pub told_of : Result Outcome Stop → Option Outcome
told_of (Ok outcome) = Some outcome
told_of (Err (Told outcome)) = Some outcome
told_of (Err (Absent name)) = Some (absent (string_bytes name))
told_of (Err (Failed name)) = Some (unread (string_bytes name))
told_of (Err (TooLong name)) = Some (too_long (string_bytes name))
told_of (Err NoMemory) = None
