-- What is left of a goal from which rows are subtracted, and its lead (docs/STATES.md, "Straight proofs").
use Rattle.std.specs.Prelude.{◌≡◌, ℕ, suc, ◌+◌, ◌-◌, ◌*◌, ◌≤◌, ◌^◌, nat_lt, Bool, true, ◌&&◌, ◌||◌, if◌then◌else◌, List, [], ◌∷◌, ◌++◌, length, map, insert, remove, slice_get, slice_set, ℤ, pos, ◌+ℤ◌, ◌-ℤ◌, neg_ℤ, int_lt, Option, None, Some}
use Rattle.std.specs.List.{All, fold}
use Rattle.std.specs.Option.{option_and_then}
use Rattle.std.specs.Ordering.{int_eq}
use Rattle.lin_facts.specs.Rows.{IsWithin, coefficient_of, same_term}
use Rattle.lin_facts.specs.declared.row.Part.{Part}
use Rattle.lin_facts.specs.declared.row.Row.{Row}
use Rattle.lin_facts.specs.declared.row.Term.{Term}
use Rattle.lin_facts.specs.declared.row.Term.TheVariants.{Value, Length, Names, Pos, Count}

-- how high a term stands among those that may lead: by its symbol, then its names above its length above its value; below
-- all symbols `count`, and `pos` below that
abbrev pub rank : Term → ℕ
rank Pos = 0
rank Count = 1
rank (Value s) = 3 * s + 2
rank (Length s) = 3 * s + 3
rank (Names s) = 3 * s + 4

-- the higher of two terms, where the second is there
abbrev pub higher : Term → Option Term → Term
higher term None = term
higher term (Some other) = if nat_lt (rank term) (rank other) then other else term

-- the highest term so far, and one whose coefficients come to this: at 0 it is left out
abbrev pub counted_in : ℤ → Term → Option Term → Option Term
counted_in sum term highest = if int_eq sum (pos 0) then highest else Some (higher term highest)

-- the lead of a row: the highest of its terms whose coefficients don't come to 0
abbrev pub lead : Row → Option Term
lead row = fold (λ highest part. counted_in (coefficient_of row.parts part.term) part.term highest) None row.parts

-- a part with the other sign
abbrev pub turned : Part → Part
turned part = record { coefficient = neg_ℤ part.coefficient; term = part.term }

-- a row less another
abbrev pub minus : Row → Row → Row
minus row other = record { constant = row.constant -ℤ other.constant; parts = row.parts ++ map turned other.parts }

-- two integers are both above 0 or both below
abbrev pub same_sign : ℤ → ℤ → Bool
same_sign m n = (int_lt (pos 0) m && int_lt (pos 0) n) || (int_lt m (pos 0) && int_lt n (pos 0))

-- a row may be subtracted where it has the lead with the sign that the remainder has it with, and any row from a remainder
-- that has no lead
abbrev pub fits : Option Term → Row → Row → Bool
fits None remainder row = true
fits (Some term) remainder row = same_sign (coefficient_of remainder.parts term) (coefficient_of row.parts term)

-- what is left of a remainder where a row may be subtracted
abbrev pub left_of : Option Term → Row → Row → Option Row
left_of leads remainder row = if fits leads remainder row then Some (minus remainder row) else None

-- two rows have the same constant, and each term with the same coefficient
pub record Alike (row other : Row) : Type 0 where
  pub constant : row.constant ≡ other.constant
  pub terms : (term : Term) → coefficient_of row.parts term ≡ coefficient_of other.parts term

-- the same of two rows where they are there
abbrev pub AreAlike : Option Row → Option Row → Type 0
AreAlike None None = Unit {0}
AreAlike (Some row) (Some other) = Alike row other
AreAlike _ _ = ⊥

-- a coefficient of a term before other parts: 0 is left out
abbrev pub put : ℤ → Term → List Part → List Part
put n term parts = if int_eq n (pos 0) then parts else record { coefficient = n; term = term } ∷ parts

-- a part is added to parts that have each term once, the higher before the lower: so they stay
abbrev pub added : Part → List Part → List Part
added part [] = put part.coefficient part.term []
added part (first ∷ parts) =
    if nat_lt (rank part.term) (rank first.term) then first ∷ added part parts
    else if same_term first.term part.term then put (first.coefficient +ℤ part.coefficient) part.term parts
    else put part.coefficient part.term (first ∷ parts)

-- a row with each term once, the higher before the lower, and no coefficient 0: alike rows have one such form
abbrev pub canonical : Row → Row
canonical row = record { constant = row.constant; parts = fold (λ parts part. added part parts) [] row.parts }

-- a row in this form less another, which has it too
abbrev pub less : Row → Row → Row
less row other = record {
  constant = row.constant -ℤ other.constant;
  parts = fold (λ parts part. added (turned part) parts) row.parts other.parts;
}

-- the place of a term in such parts: behind the higher ones
abbrev pub place_of : List Part → Term → ℕ
place_of [] term = 0
place_of (first ∷ parts) term = if nat_lt (rank term) (rank first.term) then suc (place_of parts term) else 0

-- the coefficient of a term at a place, where it stands there
abbrev pub coefficient_at : List Part → ℕ → Term → Option ℤ
coefficient_at parts at term = option_and_then (λ part. if same_term part.term term then Some part.coefficient else None) (slice_get parts at)

-- the parts with another coefficient at a place, which is left out at 0
abbrev pub changed : List Part → ℕ → ℤ → Term → List Part
changed parts at n term = if int_eq n (pos 0) then remove parts at else slice_set parts at (record { coefficient = n; term = term })

-- the parts with another one at a place, which is left out at 0
abbrev pub widened : List Part → ℕ → Part → List Part
widened parts at part = if int_eq part.coefficient (pos 0) then parts else insert parts at part

-- the numbers of a remainder in this form leave room for so many more rows of a state to be subtracted
pub record HasRoom (more : ℕ) (row : Row) : Type 0 where
  pub few : more ≤ 8
  pub parts : length row.parts ≤ 32 * (9 - more)
  pub constant : IsWithin (2 ^ 45 * (9 - more)) row.constant
  pub coefficients : All (λ part. IsWithin (2 ^ 50 * (9 - more)) part.coefficient) row.parts
