-- Rows where a command begins, comes to its next entry and ends (docs/STATES.md, "Positions"): what stands for `pos` in them.
use Rattle.std.specs.Prelude.{ℕ, suc, ℤ, pos, ◌+ℤ◌, List, [], ◌∷◌}
use Rattle.std.specs.List.{sum_by}
use Rattle.lin_facts.specs.declared.row.Part.{Part}
use Rattle.lin_facts.specs.declared.row.Row.{Row}
use Rattle.lin_facts.specs.declared.row.Term.{Term}
use Rattle.lin_facts.specs.declared.row.Term.TheVariants.{Pos, Count}
use Rattle.sym_state.specs.Results.{and_part}
use Rattle.sym_state.specs.Symbols.{Valuation}
use Rattle.sym_state.specs.WellMade.{size}

-- what stands for `pos`: 0 where a command begins, `pos` + 1 where it comes to its next entry, and `count` where it ends
pub data Position : Type 0 where
  AtStart : Position
  AtNext : Position
  AtEnd : Position

-- the number of entries visited before, there
abbrev pub visited_at : Position → Valuation → ℕ
visited_at AtStart v = 0
visited_at AtNext v = suc v.position
visited_at AtEnd v = v.count

-- the assignment with that number as its position
abbrev pub moved_to : Position → Valuation → Valuation
moved_to p v = record { value = v.value; position = visited_at p v; count = v.count }

-- `pos` with a coefficient, put among other parts: 0 is left out
abbrev pub with_position : Position → ℤ → List Part → List Part
with_position AtStart n parts = parts
with_position AtNext n parts = and_part n Pos parts
with_position AtEnd n parts = and_part n Count parts

-- a term with a coefficient, put among other parts
abbrev pub with_term : Position → ℤ → Term → List Part → List Part
with_term p n Pos parts = with_position p n parts
with_term p n t parts = and_part n t parts

-- the parts of a row, put one after the other among those before: terms that come to be equal are added up
abbrev pub parts_moved : Position → List Part → List Part → List Part
parts_moved p before [] = before
parts_moved p before (part ∷ parts) = parts_moved p (with_term p part.coefficient part.term before) parts

-- what `pos` with a coefficient adds to the constant: the coefficient of the 1 in `pos` + 1
abbrev pub position_adds : Position → ℤ → ℤ
position_adds AtNext n = n
position_adds _ n = pos 0

-- what a term with a coefficient adds to it
abbrev pub term_adds : Position → ℤ → Term → ℤ
term_adds p n Pos = position_adds p n
term_adds p n t = pos 0

-- what the parts of a row add to it
abbrev pub parts_add : Position → List Part → ℤ
parts_add p [] = pos 0
parts_add p (part ∷ parts) = term_adds p part.coefficient part.term +ℤ parts_add p parts

-- a row with that in place of `pos`
abbrev pub row_moved : Position → Row → Row
row_moved p row = record { constant = row.constant +ℤ parts_add p row.parts; parts = parts_moved p [] row.parts }

-- how great the coefficient of a term is, where it is `pos`
abbrev pub position_size : ℤ → Term → ℕ
position_size n Pos = size n
position_size n t = 0

-- how great those of a row's parts are together
abbrev pub position_sizes : List Part → ℕ
position_sizes parts = sum_by (λ part. position_size part.coefficient part.term) parts
