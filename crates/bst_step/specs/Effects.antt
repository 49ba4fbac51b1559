-- What a call of a built-in function has done, against the effect that is wanted (docs/MACHINE.md, "The built-in functions").
use Rattle.std.specs.Prelude.{◌≡◌, ◌+◌, ◌≤◌, List, Result, Ok, Err}
use Rattle.name_table.specs.declared.style.Style.{Style}
use Rattle.bv_base.specs.declared.place.Place.{Place}
use Rattle.bst_meaning.specs.declared.value.Value.{Value}
use Rattle.bst_meaning.specs.declared.fault.Fault.{Fault}
use Rattle.bst_meaning.specs.Effect.{Effect, left}
use Rattle.bst_meaning.specs.Machine.{with_effect}
use Rattle.bst_step.specs.declared.stop.Stop.{Stop}
use Rattle.bst_step.specs.declared.stop.Stop.TheVariants.{Fault as Faulted, NoMemory}
use Rattle.bst_step.specs.declared.state.State.{State}
use Rattle.bst_step.specs.MarkRules.{unless_fault}
use Rattle.bst_step.specs.Marks.{Marks}
use Rattle.bst_step.specs.State.{config_of, LeavesRoom}
use Rattle.bst_step.specs.Values.{Holding, Kept}

-- the fault is the one that is wanted
abbrev pub IsStopOf : Stop → Result Effect Fault → Type 0
IsStopOf (Faulted fault) wanted = wanted ≡ Err fault
IsStopOf NoMemory wanted = Unit {0}

-- the literal stack is what the effect leaves, which does nothing else; or the fault is the one that is wanted, and the stack is as it
-- was
abbrev pub Left : Result (Unit {0}) Stop → List Value → List Value → Result Effect Fault → Type 0
Left (Ok done) old new wanted = Ok (left new) ≡ wanted
Left (Err (Faulted fault)) old new wanted = (wanted ≡ Err fault) × (new ≡ old)
Left (Err NoMemory) old new wanted = Unit {0}

-- the marks are what they become where there is no fault, and else as they were
abbrev pub Remarked : Result (Unit {0}) Stop → Marks → Marks → (Marks → Marks) → Type 0
Remarked (Ok done) old new marks = new ≡ marks old
Remarked (Err (Faulted fault)) old new marks = new ≡ old
Remarked (Err NoMemory) old new marks = Unit {0}

-- so it is of the literal stack and of marks, the variables are as they were, and of the room for values one is taken at most
abbrev pub Leaves : Result (Unit {0}) Stop → Holding → Holding → Result Effect Fault → (Marks → Marks) → Type 0
Leaves result old new wanted marks =
    Left result old.stack new.stack wanted × Kept old new × Remarked result old.marks new.marks marks × (old.room ≤ new.room + 1)

-- the configuration is what the effect makes of the old one where it stands at a place, and so are the marks; or the fault is the one
-- that is wanted, and the configuration and the marks are as they were; and of the room for frames and values one of each is taken at
-- most
abbrev pub Makes : Style → Place → Result (Unit {0}) Stop → State → State → Result Effect Fault → (Marks → Marks) → Type 0
Makes style place (Ok done) old new wanted marks =
    (config_of new ≡ with_effect style wanted place (config_of old))
    × (new.values.marks ≡ unless_fault wanted (marks old.values.marks) old.values.marks) × LeavesRoom 1 old new
Makes style place (Err (Faulted fault)) old new wanted marks =
    (wanted ≡ Err fault) × (config_of new ≡ config_of old) × (new.values.marks ≡ old.values.marks) × LeavesRoom 1 old new
Makes style place (Err NoMemory) old new wanted marks = Unit {0}
