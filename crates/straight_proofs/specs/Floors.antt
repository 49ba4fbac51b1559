-- Floors (docs/STATES.md, "Straight proofs"): the greatest number that straight proofs show a sum to be at least.
use Rattle.std.specs.Prelude.{ℕ, zero, suc, ℤ, ◌-ℤ◌, List, [], ◌∷◌, Option, None, Some}
use Rattle.std.specs.Int.{int_max}
use Rattle.std.specs.Option.{option_and_then}
use Rattle.lin_facts.specs.declared.row.Row.{Row}
use Rattle.bst_meaning.specs.declared.condition.Cond.{Cond}
use Rattle.sym_state.specs.State.{State}
use Rattle.straight_proofs.specs.declared.straight.TheConstants.{MOST_REFERENCES}
use Rattle.straight_proofs.specs.Remainders.{lead}
use Rattle.straight_proofs.specs.Straight.{left_behind, references}

-- a sum less a number: it holds where the sum is at least the number
abbrev pub lessened : Row → ℤ → Row
lessened sum n = record sum { constant = sum.constant -ℤ n }

-- the greater of two floors, where both are there
abbrev pub greatest : Option ℤ → Option ℤ → Option ℤ
greatest None other = other
greatest (Some m) None = Some m
greatest (Some m) (Some n) = Some (int_max m n)

-- the greatest of the floors behind some references, or behind some rows
abbrev pub greatest_behind : {X : Type 0} → (X → Option ℤ) → List X → Option ℤ
greatest_behind behind [] = None
greatest_behind behind (x ∷ more) = greatest (behind x) (greatest_behind behind more)

-- the floor by at most so many references: the constant of what has no lead, and else the greatest floor of what is left
-- behind a reference
unfoldable pub floor_within : ℕ → Cond → State → Row → Option ℤ
floor_within zero cond state remainder = elim (lead remainder) [ None ↦ Some remainder.constant | Some term ↦ None ]
floor_within (suc n) cond state remainder = elim (lead remainder) [
  | None ↦ Some remainder.constant
  | Some term ↦ greatest_behind (λ r. option_and_then (floor_within n cond state) (left_behind cond state (Some term) remainder r)) (references state)
]

-- the floor of a sum, where it has one
abbrev pub floor : Cond → State → Row → Option ℤ
floor cond state sum = floor_within MOST_REFERENCES cond state sum
