-- What a built-in function gives where it gives no fault.
use Rattle.std.specs.Prelude.{ℕ, List, [], ◌∷◌, Option, None, Some, Result, Ok}
use Rattle.bst_meaning.specs.declared.value.Target.{Target}
use Rattle.bst_meaning.specs.declared.value.Value.{Value}
use Rattle.bst_meaning.specs.declared.fault.Fault.{Fault}
use Rattle.bst_meaning.specs.Config.{Event, Part, Variable}

-- a function that is entered, as a part of a `while$` or whole
pub record Entered : Type 0 where
  pub target : Target
  pub part : Part

-- the stack after a built-in, what it wrote and logged, the variable that it assigned, and the function that it enters
pub record Effect : Type 0 where
  pub stack : List Value
  pub wrote : List Event
  pub logged : List (List ℕ)
  pub assigned : Option Variable
  pub entered : Option Entered

-- the stack alone changes
abbrev pub left : List Value → Effect
left stack = record { stack = stack; wrote = []; logged = []; assigned = None; entered = None }

-- a result on the stack, and nothing else
abbrev pub pushed : Value → List Value → Result Effect Fault
pushed value stack = Ok (left (value ∷ stack))

-- something is written
abbrev pub with_written : Event → List Value → Result Effect Fault
with_written event stack = Ok (record (left stack) { wrote = event ∷ [] })

-- lines are logged
abbrev pub with_logged : List (List ℕ) → List Value → Result Effect Fault
with_logged lines stack = Ok (record (left stack) { logged = lines })

-- a target is entered
abbrev pub with_entered : Target → Part → List Value → Result Effect Fault
with_entered target part stack = Ok (record (left stack) { entered = Some (record { target = target; part = part }) })
