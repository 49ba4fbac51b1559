-- When a step shows a row from others (docs/CHECKER.md, "Rows").
use Rattle.std.specs.Prelude.{◌≡◌, ℕ, ◌<◌, ◌≤◌, length, Bool, ◌&&◌, nat_lt, List, [], ◌∷◌, ℤ, pos, ◌+ℤ◌, ◌-ℤ◌, ◌*ℤ◌, ◌<ℤ◌, neg_ℤ, int_lt, slice_index_or}
use Rattle.std.specs.List.{All, list_all}
use Rattle.std.specs.Ordering.{int_eq}
use Rattle.lin_facts.specs.Rows.{coefficient_of, Assignment, Holds, IsSmall}
use Rattle.lin_facts.specs.declared.row.Term.{Term}
use Rattle.lin_facts.specs.declared.row.Part.{Part}
use Rattle.lin_facts.specs.declared.row.Row.{Row}
use Rattle.lin_facts.specs.declared.row.StepUse.{StepUse}
use Rattle.lin_facts.specs.declared.row.Step.{Step}
use Rattle.lin_facts.specs.declared.follows.Column.{Column}
use Rattle.lin_facts.specs.declared.follows.Column.TheVariants.{Constant, At}

-- what is read past the end of a list of rows
abbrev pub no_row : Row
no_row = record { constant = pos 0; parts = [] }

-- the row of a number, from 0
abbrev pub row_at : List Row → ℕ → Row
row_at rows k = slice_index_or rows k no_row

-- the number of a row in a column: its constant, or how often it takes a term
abbrev pub entry : Column → Row → ℤ
entry Constant row = row.constant
entry (At term) row = coefficient_of row.parts term

-- the used rows, each taken so many times, added up in a column
abbrev pub summed : List Row → Column → List StepUse → ℤ
summed rows column [] = pos 0
summed rows column (u ∷ us) = pos u.times *ℤ entry column (row_at rows u.row) +ℤ summed rows column us

-- what the goal, taken as often as the divisor says, has in a column beyond that sum
abbrev pub left_over : List Row → Step → Row → Column → ℤ
left_over rows step goal column = pos step.divisor *ℤ entry column goal -ℤ summed rows column step.uses

-- the divisor is at least 1, each used row is there, and the goal taken that often is the sum of the used
-- rows, term by term, and a constant that is greater than minus the divisor
pub record Follows (rows : List Row) (step : Step) (goal : Row) : Type 0 where
  pub divisor : 0 < step.divisor
  pub in_range : All (λ u. u.row < length rows) step.uses
  pub constant : neg_ℤ (pos step.divisor) <ℤ left_over rows step goal Constant
  pub terms : (term : Term) → left_over rows step goal (At term) ≡ pos 0

-- nothing of a term is left over
abbrev pub cancels : List Row → Step → Row → Term → Bool
cancels rows step goal term = int_eq (left_over rows step goal (At term)) (pos 0)

-- nothing of the terms of these parts is left over
abbrev pub cancel : List Row → Step → Row → List Part → Bool
cancel rows step goal parts = list_all (λ part. cancels rows step goal part.term) parts

-- Follows as a test, decided at the terms of the goal and of the used rows
abbrev pub follows : List Row → Step → Row → Bool
follows rows step goal =
    nat_lt 0 step.divisor
    && (list_all (λ u. nat_lt u.row (length rows)) step.uses
    && (int_lt (neg_ℤ (pos step.divisor)) (left_over rows step goal Constant)
    && (cancel rows step goal goal.parts
    && list_all (λ u. cancel rows step goal (row_at rows u.row).parts) step.uses)))

-- the rows that a step uses hold
abbrev pub UsedHold : Assignment → List Row → List StepUse → Type 0
UsedHold a rows uses = All (λ u. Holds a (row_at rows u.row)) uses

-- at most 64 rows and 64 uses, and all numbers within their bounds, so that no sum of 128 bits wraps
pub record IsInBounds (rows : List Row) (step : Step) (goal : Row) : Type 0 where
  pub few_rows : length rows ≤ 64
  pub few_uses : length step.uses ≤ 64
  pub small_rows : All IsSmall rows
  pub small_goal : IsSmall goal
