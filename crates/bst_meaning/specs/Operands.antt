-- How a built-in function takes its operands (docs/MACHINE.md, "The built-in functions"): an operand that isn't there comes before
-- one of the wrong kind, and the top operand's kind before the others'.
use Rattle.std.specs.Prelude.{ℕ, ℤ, pos, negsuc, Bool, true, false, nat_le, if◌then◌else◌, List, [], ◌∷◌, Option, None, Some, Result, Err}
pub use Rattle.name_table.specs.Numbers.{has_32_bits}
use Rattle.bst_meaning.specs.declared.value.Target.{Target}
use Rattle.bst_meaning.specs.declared.value.Value.{Value}
use Rattle.bst_meaning.specs.declared.value.Value.TheVariants.{Int, Str, Missing, Func}
use Rattle.bst_meaning.specs.declared.fault.Fault.{Fault}
use Rattle.bst_meaning.specs.declared.fault.Fault.TheVariants.{EmptyPop, WrongKind, IntRange}
use Rattle.bst_meaning.specs.Effect.{Effect, pushed}

-- the top of the stack, and what is below
abbrev pub one_operand : List Value → (Value → List Value → Result Effect Fault) → Result Effect Fault
one_operand [] rule = Err EmptyPop
one_operand (a ∷ stack) rule = rule a stack

-- the two topmost, the lower one first
abbrev pub two_operands : List Value → (Value → Value → List Value → Result Effect Fault) → Result Effect Fault
two_operands [] rule = Err EmptyPop
two_operands (b ∷ []) rule = Err EmptyPop
two_operands (b ∷ a ∷ stack) rule = rule a b stack

-- the three topmost, the lowest first
abbrev pub three_operands : List Value → (Value → Value → Value → List Value → Result Effect Fault) → Result Effect Fault
three_operands [] rule = Err EmptyPop
three_operands (c ∷ []) rule = Err EmptyPop
three_operands (c ∷ b ∷ []) rule = Err EmptyPop
three_operands (c ∷ b ∷ a ∷ stack) rule = rule a b c stack

-- a string
abbrev pub as_string : Value → (List ℕ → Result Effect Fault) → Result Effect Fault
as_string (Str bytes) rule = rule bytes
as_string _ rule = Err WrongKind

-- an integer
abbrev pub as_integer : Value → (ℤ → Result Effect Fault) → Result Effect Fault
as_integer (Int n) rule = rule n
as_integer _ rule = Err WrongKind

-- a function
abbrev pub as_function : Value → (Target → Result Effect Fault) → Result Effect Fault
as_function (Func target) rule = rule target
as_function _ rule = Err WrongKind

-- a string, or none for a missing field
abbrev pub as_field : Value → (Option (List ℕ) → Result Effect Fault) → Result Effect Fault
as_field (Str bytes) rule = rule (Some bytes)
as_field (Missing name) rule = rule None
as_field _ rule = Err WrongKind

-- an integer is pushed where it has 32 bits
abbrev pub ranged : ℤ → List Value → Result Effect Fault
ranged n stack = if has_32_bits n then pushed (Int n) stack else Err IntRange

-- 1 for true and 0 for false
abbrev pub truth : Bool → Value
truth true = Int (pos 1)
truth false = Int (pos 0)

-- an integer is above 0
abbrev pub is_positive : ℤ → Bool
is_positive (pos n) = nat_le 1 n
is_positive (negsuc n) = false

-- an integer is 0
abbrev pub is_zero : ℤ → Bool
is_zero (pos n) = nat_le n 0
is_zero (negsuc n) = false
