-- What symbols stand for (docs/STATES.md, "Assignments"): values, and the integers of rows that they give.
use Rattle.std.specs.Prelude.{◌≡◌, ℕ, ◌<◌, ℤ, pos, length}
use Rattle.lin_facts.specs.Rows.{Assignment}
use Rattle.lin_facts.specs.declared.row.Term.TheVariants.{Value as ValueOf, Length as LengthOf, Names as NamesOf, Pos, Count}
use Rattle.name_split.specs.Names.{names_of}
use Rattle.bst_meaning.specs.declared.value.Value.{Value}
use Rattle.bst_meaning.specs.declared.value.Value.TheVariants.{Int, Str}
pub use Rattle.bst_meaning.specs.Values.{IsValue}

-- an assignment: a value for each symbol, how many entries the command visited before the present one, and how many
-- entries there are
pub record Valuation : Type 0 where
  pub value : ℕ → Value
  pub position : ℕ
  pub count : ℕ

-- an assignment agrees with another on the symbols below a number, and on the entries
pub record Agrees (next : ℕ) (v w : Valuation) : Type 0 where
  pub value : (s : ℕ) → s < next → w.value s ≡ v.value s
  pub position : w.position ≡ v.position
  pub count : w.count ≡ v.count

-- the integer that a value is, and 0 where it is none
abbrev pub integer_of : Value → ℤ
integer_of (Int n) = n
integer_of _ = pos 0

-- how many bytes a string has, and 0 for what is none
abbrev pub length_of : Value → ℤ
length_of (Str bytes) = pos (length bytes)
length_of _ = pos 0

-- how many names a string has, and 0 for what is none
abbrev pub name_count_of : Value → ℤ
name_count_of (Str bytes) = pos (length (names_of bytes))
name_count_of _ = pos 0

-- the integers that an assignment gives the terms of rows
abbrev pub numbers : Valuation → Assignment
numbers v (ValueOf s) = integer_of (v.value s)
numbers v (LengthOf s) = length_of (v.value s)
numbers v (NamesOf s) = name_count_of (v.value s)
numbers v Pos = pos v.position
numbers v Count = pos v.count
