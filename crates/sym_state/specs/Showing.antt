-- How a piece is shown by the next hints (docs/STATES.md, "Entailment"): its lines in order, and each of its rows by a step.
use Rattle.std.specs.Prelude.{ℕ, suc, ◌≤◌, nat_lt, if◌then◌else◌, List, [], ◌∷◌, length, Option, None, Some, Result, Ok, Err}
use Rattle.std.specs.List.{All}
use Rattle.bv_base.specs.Answers.{then_do}
use Rattle.lin_facts.specs.declared.row.Row.{Row}
use Rattle.bst_meaning.specs.declared.condition.Cond.{Cond}
use Rattle.sym_state.specs.State.{State}
use Rattle.sym_state.specs.declared.demand.EffectFault.{EffectFault}
use Rattle.sym_state.specs.declared.demand.EffectFault.TheVariants.{NotEntailed, HintsShort, WrongHint}
use Rattle.sym_state.specs.declared.hint.Hint.{Hint}
use Rattle.sym_state.specs.declared.hint.Hint.TheVariants.{Step}
use Rattle.sym_state.specs.declared.piece.Piece.{Piece}
use Rattle.sym_state.specs.Demands.{HasFewUses}
use Rattle.sym_state.specs.Entailing.{first_before_rows, first_row_line, line_count, match_of}
use Rattle.sym_state.specs.References.{shows}
use Rattle.sym_state.specs.Renaming.{row_renamed}
use Rattle.sym_state.specs.WellMade.{HasBounds, IsBounded}

-- the hints that are left, or why a piece isn't shown
abbrev pub Shown : Type 0
Shown = Result (List Hint) EffectFault

-- the hint is a step that shows a row under a match, which is the piece's line of this number
abbrev pub row_shown_by : (ℕ → ℕ) → Cond → State → ℕ → Row → Hint → List Hint → Shown
row_shown_by match cond state line row (Step proof) hints =
    if shows cond state proof (row_renamed match row) then Ok hints else Err (NotEntailed line)
row_shown_by match cond state line row hint hints = Err WrongHint

-- the next hint shows a row
abbrev pub row_by : (ℕ → ℕ) → Cond → State → ℕ → Row → List Hint → Shown
row_by match cond state line row [] = Err HintsShort
row_by match cond state line row (hint ∷ hints) = row_shown_by match cond state line row hint hints

-- rows in order, whose lines are numbered from here
abbrev pub rows_by : (ℕ → ℕ) → Cond → State → ℕ → List Row → List Hint → Shown
rows_by match cond state line [] hints = Ok hints
rows_by match cond state line (row ∷ rows) hints =
    then_do (row_by match cond state line row hints) (rows_by match cond state (suc line) rows)

-- the lines before the rows come first
abbrev pub behind_lines : Option ℕ → Shown → Shown
behind_lines (Some line) rows = Err (NotEntailed line)
behind_lines None rows = rows

-- a state shows a piece, whose symbols below `kept` are the state's own: line 0 fails where it knows fewer symbols on the stack
abbrev pub piece_by : Cond → State → Piece → ℕ → List Hint → Shown
piece_by cond state piece kept hints =
    let match = match_of state piece kept in
    if nat_lt (length state.stack) (length piece.stack)
    then Err (NotEntailed 0)
    else behind_lines (first_before_rows match state piece) (rows_by match cond state (first_row_line piece) piece.rows hints)

-- a state, a piece and hints that a call may take: texts and rows within their bounds, few lines, short proofs
pub record CanShow (state : State) (piece : Piece) (hints : List Hint) : Type 0 where
  pub bounds : HasBounds state
  pub rows : All IsBounded piece.rows
  pub lines : line_count piece ≤ 2147483648
  pub proofs : All HasFewUses hints
