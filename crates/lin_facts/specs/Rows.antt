-- Linear rows: what they claim of an assignment of integers to terms (docs/CHECKER.md, "Rows").
use Rattle.std.specs.Prelude.{ℕ, ◌≤◌, ◌^◌, length, Bool, true, false, if◌then◌else◌, List, [], ◌∷◌, nat_eq, ℤ, pos, ◌+ℤ◌, ◌*ℤ◌, ◌≤ℤ◌, neg_ℤ}
use Rattle.std.specs.List.{All}
use Rattle.lin_facts.specs.declared.row.Term.{Term}
use Rattle.lin_facts.specs.declared.row.Term.TheVariants.{Value, Length, Names, Pos, Count}
use Rattle.lin_facts.specs.declared.row.Part.{Part}
use Rattle.lin_facts.specs.declared.row.Row.{Row}

-- two terms are one
abbrev pub same_term : Term → Term → Bool
same_term (Value m) (Value n) = nat_eq m n
same_term (Length m) (Length n) = nat_eq m n
same_term (Names m) (Names n) = nat_eq m n
same_term Pos Pos = true
same_term Count Count = true
same_term _ _ = false

-- how often a term is taken: equal terms of a row are added up
abbrev pub coefficient_of : List Part → Term → ℤ
coefficient_of [] term = pos 0
coefficient_of (part ∷ parts) term = (if same_term part.term term then part.coefficient else pos 0) +ℤ coefficient_of parts term

-- an integer for each term
abbrev pub Assignment : Type 0
Assignment = Term → ℤ

-- the sum of the parts under an assignment
abbrev pub sum_of : Assignment → List Part → ℤ
sum_of a [] = pos 0
sum_of a (part ∷ parts) = part.coefficient *ℤ a part.term +ℤ sum_of a parts

-- the constant and the sum of the parts
abbrev pub value_of : Assignment → Row → ℤ
value_of a row = row.constant +ℤ sum_of a row.parts

-- a row holds where its value is at least 0
abbrev pub Holds : Assignment → Row → Type 0
Holds a row = pos 0 ≤ℤ value_of a row

-- a number of at most this size
pub record IsWithin (size : ℕ) (z : ℤ) : Type 0 where
  pub low : neg_ℤ (pos size) ≤ℤ z
  pub high : z ≤ℤ pos size

-- a row of at most 32 parts, whose numbers have at most the size 2^45
pub record IsSmall (row : Row) : Type 0 where
  pub parts : length row.parts ≤ 32
  pub constant : IsWithin (2 ^ 45) row.constant
  pub coefficients : All (λ part. IsWithin (2 ^ 45) part.coefficient) row.parts
