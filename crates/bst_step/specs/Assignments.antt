-- What `:=` comes to (docs/MACHINE.md, "The built-in functions").
use Rattle.std.specs.Prelude.{◌≡◌, ℕ, List, [], ◌∷◌, drop, slice_get, Option, None, Some, Result, Ok, Err}
use Rattle.name_table.specs.declared.names.NameId.{NameId}
use Rattle.bst_meaning.specs.declared.value.Value.{Value}
use Rattle.bst_meaning.specs.declared.fault.Fault.{Fault}
use Rattle.bst_meaning.specs.Effect.{Effect, left, with_logged}
use Rattle.bst_step.specs.declared.assign.Assignment.{Assignment}
use Rattle.bst_step.specs.declared.assign.Assignment.TheVariants.{Whole, Cut}
use Rattle.bst_step.specs.declared.stop.Stop.{Stop}
use Rattle.bst_step.specs.declared.stop.Stop.TheVariants.{Fault as Faulted, NoMemory}
use Rattle.bst_step.specs.Held.{part_from}

-- a value is assigned
abbrev pub assigned : NameId → Option Value → List Value → Result Effect Fault
assigned name None stack = Ok (left stack)
assigned name (Some value) stack = Ok (record (left stack) { assigned = Some (record { name = name; value = value }) })

-- a value is assigned, of a string so many bytes, and a line logged
abbrev pub assigned_cut : NameId → ℕ → List ℕ → Option Value → List Value → Result Effect Fault
assigned_cut name size line None stack = with_logged (line ∷ []) stack
assigned_cut name size line (Some value) stack =
    Ok (record (left stack) { assigned = Some (record { name = name; value = part_from 0 size value }); logged = line ∷ [] })

-- the effect on a stack, its top first
abbrev pub effect_of : Assignment → List Value → Result Effect Fault
effect_of (Whole name) stack = assigned name (slice_get stack 1) (drop 2 stack)
effect_of (Cut name size line) stack = assigned_cut name size line (slice_get stack 1) (drop 2 stack)

-- the variable to which it assigns
abbrev pub name_of : Assignment → NameId
name_of (Whole name) = name
name_of (Cut name size line) = name

-- the assignment has the effect that is wanted, or the fault is the one that is wanted
abbrev pub Gives : Result Assignment Stop → List Value → Result Effect Fault → Type 0
Gives (Ok assignment) stack wanted = effect_of assignment stack ≡ wanted
Gives (Err (Faulted fault)) stack wanted = wanted ≡ Err fault
Gives (Err NoMemory) stack wanted = Unit {0}
