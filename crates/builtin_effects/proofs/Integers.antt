-- Integers of 32 bits, and what the machine pushes of them.
use Rattle.std.proofs.Common.{◌≡◌, ℕ, ◌≤◌, Bool, true, cond, List, Err, ap, arith}
use Rattle.std.specs.Prelude.{ℤ, pos, negsuc, ◌≤ℤ◌}
use Rattle.std.proofs.lemmas.Bool.{le-leb}
use Rattle.std.proofs.lemmas.Int.{ints}
use Rattle.bst_meaning.specs.declared.fault.Fault.TheVariants.{IntRange}
use Rattle.bst_meaning.specs.declared.value.Value.{Value}
use Rattle.bst_meaning.specs.declared.value.Value.TheVariants.{Int}
use Rattle.bst_meaning.specs.Effect.{pushed}
use Rattle.bst_meaning.specs.Operands.{has_32_bits, ranged}

pub number_bits : (n : ℕ) → n ≤ 2147483647 → has_32_bits (pos n) ≡ true
number_bits n few = le-leb n 2147483647 few

pub bits_from : (n : ℤ) → negsuc 2147483647 ≤ℤ n → n ≤ℤ pos 2147483647 → has_32_bits n ≡ true
bits_from (pos n) low high = number_bits n (omega (arith, ints, high))
bits_from (negsuc n) low high = le-leb n 2147483647 (omega (arith, ints, low))

pub in_range : (n : ℤ) (stack : List Value) → has_32_bits n ≡ true → ranged n stack ≡ pushed (Int n) stack
in_range n stack e = ap (λ (t : Bool). cond t (pushed (Int n) stack) (Err IntRange)) e
