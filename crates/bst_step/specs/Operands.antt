-- The operands that several built-in functions take (docs/MACHINE.md, "The built-in functions").
use Rattle.std.specs.Prelude.{ℕ, ℤ, List, Option, Result}
use Rattle.bst_meaning.specs.declared.value.Value.{Value}
use Rattle.bst_meaning.specs.declared.fault.Fault.{Fault}
use Rattle.bst_meaning.specs.Effect.{Effect}
use Rattle.bst_meaning.specs.Operands.{one_operand, two_operands, as_string, as_integer, as_field}

-- one integer
abbrev pub integer : (ℤ → List Value → Result Effect Fault) → List Value → Result Effect Fault
integer rule stack = one_operand stack (λ a rest. as_integer a (λ n. rule n rest))

-- a string, or none for a missing field
abbrev pub field : (Option (List ℕ) → List Value → Result Effect Fault) → List Value → Result Effect Fault
field rule stack = one_operand stack (λ a rest. as_field a (λ bytes. rule bytes rest))

-- two strings
abbrev pub strings : (List ℕ → List ℕ → List Value → Result Effect Fault) → List Value → Result Effect Fault
strings rule stack = two_operands stack (λ a b rest. as_string b (λ y. as_string a (λ x. rule x y rest)))
