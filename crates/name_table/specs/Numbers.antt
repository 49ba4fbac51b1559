-- The bytes and the integers of the style language (docs/LANGUAGE.md, "Bytes" and "Lexemes").
use Rattle.std.specs.Prelude.{ℕ, ◌<◌, ℤ, pos, negsuc, Bool, nat_le, List}
use Rattle.std.specs.List.{AllByRecursion}
use Rattle.bv_base.specs.declared.limits.TheConstants.{GREATEST_INTEGER}

-- each number is a byte
abbrev pub IsByteList : List ℕ → Type 0
IsByteList bytes = AllByRecursion (λ b. b < 256) bytes

-- a number of 32 bits
abbrev pub has_32_bits : ℤ → Bool
has_32_bits (pos n) = nat_le n GREATEST_INTEGER
has_32_bits (negsuc n) = nat_le n GREATEST_INTEGER
