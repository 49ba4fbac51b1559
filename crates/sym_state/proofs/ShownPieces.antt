-- Where a piece is shown by hints, it holds of what the state stands for.
use Rattle.std.proofs.Common.{◌≡◌, ℕ, suc, ◌≤◌, Bool, true, false, cond, refl, List, [], ◌∷◌, ◌++◌, length, arith, nat_lt, Option, None, Some, Result, Ok, Err}
use Rattle.std.specs.List.{AllByRecursion}
use Rattle.std.proofs.lemmas.Bool.Decides.{nat_tests}
use Rattle.bv_base.specs.Answers.{then_do}
use Rattle.lin_facts.specs.Rows.{Holds}
use Rattle.lin_facts.specs.declared.row.Row.{Row}
use Rattle.name_table.specs.declared.style.Style.{Style}
use Rattle.bst_meaning.specs.declared.condition.Cond.{Cond}
use Rattle.bst_meaning.specs.EntryLists.{EntryList}
use Rattle.bst_meaning.specs.declared.value.Value.{Value}
use Rattle.bst_meaning.specs.Config.{Config}
use Rattle.sym_state.specs.declared.demand.EffectFault.TheVariants.{NotEntailed}
use Rattle.sym_state.specs.declared.hint.Hint.{Hint}
use Rattle.sym_state.specs.declared.hint.Hint.TheVariants.{Step}
use Rattle.sym_state.specs.declared.piece.Piece.{Piece}
use Rattle.sym_state.specs.declared.proof.Proof.{Proof}
use Rattle.sym_state.specs.State.{State}
use Rattle.sym_state.specs.Entailing.{first_before_rows, first_row_line, match_of, under}
use Rattle.sym_state.specs.References.{shows}
use Rattle.sym_state.specs.Renaming.{row_renamed, through}
use Rattle.sym_state.specs.Showing.{Shown, behind_lines, piece_by, row_by, row_shown_by, rows_by}
use Rattle.sym_state.specs.Stands.{PieceHolds, Satisfies, Stands, values_of}
use Rattle.sym_state.specs.Symbols.{Valuation, numbers}
use Rattle.sym_state.proofs.Entailed.{lines_hold, through_row}
use Rattle.sym_state.proofs.Shown.{shown_holds}

-- what was shown first, and what was shown of the hints that were left
record Then (first : Shown) (next : List Hint → Shown) (left : List Hint) : Type 0 where
  hints : List Hint
  shown : first ≡ Ok hints
  goes_on : next hints ≡ Ok left

then_shown : (first : Shown) (next : List Hint → Shown) (left : List Hint) → then_do first next ≡ Ok left → Then first next left
then_shown (Ok hints) next left e = record { hints = hints; shown = refl; goes_on = e }
then_shown (Err fault) next left e = absurd (cc)

-- the proof of a step shows the row
step_shows : (style : Style) (admits : Cond) (v : Valuation) (match : ℕ → ℕ) (state : State) (line : ℕ) (row : Row) (hint : Hint) (hints left : List Hint)
    → Satisfies style admits v state → row_shown_by match admits state line row hint hints ≡ Ok left → Holds (numbers (through match v)) row
step_shows style admits v match state line row (Step proof) hints left h e =
    let goal : Row = row_renamed match row in
    elim (shows admits state proof goal) as (λ (t : Bool). shows admits state proof goal ≡ t
    → (let shown : Shown = cond t (Ok hints) (Err (NotEntailed line)) in shown) ≡ Ok left → Holds (numbers (through match v)) row) [
      | true ↦ λ is found. through_row v match row (shown_holds style admits v state proof goal h is)
      | false ↦ λ is found. absurd (cc)
    ] refl e
step_shows style admits v match state line row _ hints left h e = absurd (cc)

row_holds : (style : Style) (admits : Cond) (v : Valuation) (match : ℕ → ℕ) (state : State) (line : ℕ) (row : Row) (hints left : List Hint)
    → Satisfies style admits v state → row_by match admits state line row hints ≡ Ok left → Holds (numbers (through match v)) row
row_holds style admits v match state line row [] left h e = absurd (cc)
row_holds style admits v match state line row (hint ∷ hints) left h e = step_shows style admits v match state line row hint hints left h e

rows_hold : (style : Style) (admits : Cond) (v : Valuation) (match : ℕ → ℕ) (state : State) (line : ℕ) (rows : List Row) (hints left : List Hint)
    → Satisfies style admits v state → rows_by match admits state line rows hints ≡ Ok left → AllByRecursion (Holds (numbers (through match v))) rows
rows_hold style admits v match state line [] hints left h e = tt
rows_hold style admits v match state line (row ∷ rows) hints left h e =
    let two = then_shown (row_by match admits state line row hints) (rows_by match admits state (suc line) rows) left e in (
      row_holds style admits v match state line row hints two.hints h two.shown,
      rows_hold style admits v match state (suc line) rows two.hints left h two.goes_on,
    )

-- no line before the rows fails, and the rows are shown
record Behind (found : Option ℕ) (rows : Shown) (left : List Hint) : Type 0 where
  none : found ≡ None
  shown : rows ≡ Ok left

behind : (found : Option ℕ) (rows : Shown) (left : List Hint) → behind_lines found rows ≡ Ok left → Behind found rows left
behind (Some line) rows left e = absurd (cc)
behind None rows left e = record { none = refl; shown = e }

-- what is shown of a piece
pub record IsShown (admits : Cond) (state : State) (piece : Piece) (kept : ℕ) (hints left : List Hint) : Type 0 where
  pub few : length piece.stack ≤ length state.stack
  pub lines : first_before_rows (match_of state piece kept) state piece ≡ None
  pub rows : rows_by (match_of state piece kept) admits state (first_row_line piece) piece.rows hints ≡ Ok left

pub shown_parts : (admits : Cond) (state : State) (piece : Piece) (kept : ℕ) (hints left : List Hint)
    → piece_by admits state piece kept hints ≡ Ok left → IsShown admits state piece kept hints left
shown_parts admits state piece kept hints left e =
    let match : ℕ → ℕ = match_of state piece kept in
    let rows : Shown = rows_by match admits state (first_row_line piece) piece.rows hints in
    elim (nat_lt (length state.stack) (length piece.stack)) as (λ (t : Bool). nat_lt (length state.stack) (length piece.stack) ≡ t
    → cond t (Err (NotEntailed 0)) (behind_lines (first_before_rows match state piece) rows) ≡ Ok left
    → IsShown admits state piece kept hints left) [
      | true ↦ λ is found. absurd (cc)
      | false ↦ λ is found.
          let both = behind (first_before_rows match state piece) rows left found in
          record { few = grind (arith, nat_tests); lines = both.none; rows = both.shown }
    ] refl e

pub shown_piece_holds : (style : Style) (admits : Cond) (list : EntryList) (v : Valuation) (state : State) (c : Config) (below : List Value)
    (piece : Piece) (kept : ℕ) (hints left : List Hint) → piece_by admits state piece kept hints ≡ Ok left
    → Stands style admits list v state c below
    → PieceHolds style (through (match_of state piece kept) v) piece c (values_of v (under state piece) ++ below)
shown_piece_holds style admits list v state c below piece kept hints left e stands =
    let match : ℕ → ℕ = match_of state piece kept in
    let shown = shown_parts admits state piece kept hints left e in
    lines_hold style admits list v state c below piece match shown.few shown.lines
    (rows_hold style admits v match state (first_row_line piece) piece.rows hints left stands.satisfied shown.rows) stands
