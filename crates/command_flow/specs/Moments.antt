-- The moments of a command that visits entries, as positions of rows (docs/STATES.md, "Positions").
use Rattle.std.specs.Prelude.{ℕ, List}
use Rattle.std.specs.List.{sum_by}
use Rattle.lin_facts.specs.declared.row.Part.{Part}
use Rattle.sym_state.specs.Positions.{Position, AtStart, AtNext, AtEnd}
use Rattle.sym_state.specs.WellMade.{size}
use Rattle.command_flow.specs.declared.moving.Moment.{Moment}
use Rattle.command_flow.specs.declared.moving.Moment.TheVariants.{Start, Next, End}

-- what stands for `pos` at a moment
abbrev pub position_of : Moment → Position
position_of Start = AtStart
position_of Next = AtNext
position_of End = AtEnd

-- how great the coefficients of some parts are together
abbrev pub sizes : List Part → ℕ
sizes parts = sum_by (λ part. size part.coefficient) parts
