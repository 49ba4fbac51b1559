-- Cases of what commands leave (docs/ANALYSER.md, "Commands"): all that the states at the end of a call have in common, and the rows that a
-- visit leaves for the next one.
use Rattle.std.specs.Prelude.{Bool, List, [], None}
use Rattle.std.specs.List.{filter, list_all}
use Rattle.lin_facts.specs.declared.row.Row.{Row}
use Rattle.bst_meaning.specs.declared.condition.Cond.{Cond}
use Rattle.sym_state.specs.Positions.{AtNext, row_moved}
use Rattle.sym_state.specs.State.{State}
use Rattle.sym_state.specs.declared.piece.Piece.{Piece}
use Rattle.loop_templates.specs.Candidates.{is_proved}
use Rattle.loop_templates.specs.Cases.{Frame, bare_case, with_rows}

-- the case that states have in common, whatever stands on their stacks
abbrev pub common_case : Frame → List State → Piece
common_case frame states = with_rows frame states (bare_case frame [] frame.entering None)

-- a row of a visit's case has a straight proof in a state at the visit's end, where one entry more was visited
abbrev pub is_left : Cond → Piece → Row → State → Bool
is_left admits case row state = is_proved admits case (row_moved AtNext row) state

-- the rows of a visit's case that have one in each of some such states
abbrev pub rows_left : Cond → Piece → List State → List Row → List Row
rows_left admits case states rows = filter (λ row. list_all (is_left admits case row) states) rows

-- a visit's case with these rows alone
abbrev pub left_by : Cond → List State → Piece → Piece
left_by admits states case = record case { rows = rows_left admits case states case.rows }
