-- The numeral of an integer (docs/TEXTS.md, "int.to.str$").
use Rattle.std.specs.Prelude.{ℕ, suc, List, ◌++◌, ℤ, pos, negsuc, decimal, codes}

-- the decimal digits, after a `-` where the integer is negative
abbrev pub numeral : ℤ → List ℕ
numeral (pos n) = decimal n
numeral (negsuc n) = codes "-" ++ decimal (suc n)
