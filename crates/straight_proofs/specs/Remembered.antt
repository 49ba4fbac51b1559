-- What a search remembers of the sums that it has been at (docs/STATES.md, "Straight proofs").
use Rattle.std.specs.Prelude.{◌≡◌, ℕ, ◌*◌, ◌^◌, Bool, if◌then◌else◌, List, [], ◌∷◌, ℤ, pos, ◌-ℤ◌, Option}
use Rattle.std.specs.Cmp.Lexicographic.{pointwise}
use Rattle.std.specs.List.{All, flat_map}
use Rattle.std.specs.Map.{lookup}
use Rattle.std.specs.Option.{IfSome}
use Rattle.std.specs.Ordering.{int_eq}
use Rattle.lin_facts.specs.Rows.{IsSmall, IsWithin}
use Rattle.lin_facts.specs.declared.row.Part.{Part}
use Rattle.lin_facts.specs.declared.row.Row.{Row}
use Rattle.lin_facts.specs.declared.row.Term.{Term}
use Rattle.bst_meaning.specs.declared.condition.Cond.{Cond}
use Rattle.sym_state.specs.State.{State}
use Rattle.straight_proofs.specs.Floors.{floor_within}
use Rattle.straight_proofs.specs.Lookup.{rows_with}
use Rattle.straight_proofs.specs.Remainders.{rank}

-- the numbers of parts: each coefficient with the rank of its term
abbrev pub numbers_of : List Part → List ℤ
numbers_of parts = flat_map (λ part. part.coefficient ∷ pos (rank part.term) ∷ []) parts

-- parts and how many references may follow, as numbers
abbrev pub numbers : ℕ → List Part → List ℤ
numbers more parts = pos more ∷ numbers_of parts

-- what is remembered under a key
abbrev pub remembered : {V : Type 0} → List ℤ → List (List ℤ × V) → Option V
remembered key pairs = lookup (pointwise int_eq key) pairs

-- parts with the constant 0
abbrev pub bare : List Part → Row
bare parts = record { constant = pos 0; parts = parts }

-- a floor is no further from the constant of its remainder than so many rows move it
abbrev pub IsNear : ℕ → Row → Option ℤ → Type 0
IsNear more remainder floor = IfSome floor (λ n. IsWithin (2 ^ 45 * more) (n -ℤ remainder.constant))

-- the floor of parts with the constant 0
pub record IsFloor (cond : Cond) (state : State) (more : ℕ) (parts : List Part) (floor : Option ℤ) : Type 0 where
  pub is : floor ≡ floor_within more cond state (bare parts)
  pub near : IsNear more (bare parts) floor

-- what is remembered of parts is their floors
abbrev pub HaveFloors : Cond → State → List (List ℤ × Option ℤ) → Type 0
HaveFloors cond state pairs = (more : ℕ) (parts : List Part) → IfSome (remembered (numbers more parts) pairs) (IsFloor cond state more parts)

-- the rows that have a term with a sign, within their bounds
pub record AreWith (cond : Cond) (state : State) (above : Bool) (term : Term) (rows : List Row) : Type 0 where
  pub are : rows ≡ rows_with cond state above term
  pub small : All IsSmall rows

-- a term and a sign as numbers
abbrev pub signed : Bool → Term → List ℤ
signed above term = pos (if above then 1 else 0) ∷ pos (rank term) ∷ []

-- what is remembered of terms with their signs is the rows that have them
abbrev pub HaveRows : {V : Type 0} → (V → List Row) → Cond → State → List (List ℤ × V) → Type 0
HaveRows rows_in cond state pairs =
    (above : Bool) (term : Term) → IfSome (remembered (signed above term) pairs) (λ rows. AreWith cond state above term (rows_in rows))
