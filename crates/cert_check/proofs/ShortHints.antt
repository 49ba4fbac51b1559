-- What holds of each hint holds of those that rules on states leave.
use Rattle.std.proofs.Common.{◌≡◌, ℕ, suc, sym, subst, List, [], ◌∷◌, Ok}
use Rattle.std.specs.List.{All}
use Rattle.std.proofs.lemmas.List.Elements.{All-drop, All-tail}
use Rattle.bv_base.proofs.ThenLemmas.{ok_is, then_ok, where_ok}
use Rattle.lin_facts.specs.declared.row.Row.{Row}
use Rattle.name_table.specs.declared.builtin.Builtin.{Builtin}
use Rattle.name_table.specs.declared.style.Style.{Style}
use Rattle.bst_meaning.specs.declared.condition.Cond.{Cond}
use Rattle.sym_state.specs.State.{State}
use Rattle.sym_state.specs.Demands.{After}
use Rattle.sym_state.specs.Effects.{effect_of, rule_of}
use Rattle.sym_state.specs.Entailing.{first_row_line, match_of}
use Rattle.sym_state.specs.References.{shows}
use Rattle.sym_state.specs.Renaming.{row_renamed}
use Rattle.sym_state.specs.Showing.{piece_by, row_by, row_shown_by, rows_by}
use Rattle.sym_state.specs.declared.hint.Hint.{Hint}
use Rattle.sym_state.specs.declared.hint.Hint.TheVariants.{Step}
use Rattle.sym_state.specs.declared.piece.Piece.{Piece}
use Rattle.sym_state.proofs.Ensured.{hints_left}
use Rattle.sym_state.proofs.ShownPieces.{shown_parts}
use Rattle.cert_check.specs.Uses.{Passage, comes_by}
use Rattle.cert_check.proofs.LeftMade.{came_shows}

-- the hints that an effect leaves
pub effect_keeps : (P : Hint → Type 0) (style : Style) (admits : Cond) (state : State) (op : Builtin) (hints : List Hint) (after : After)
    → effect_of style admits state op hints ≡ Ok after → All P hints → All P after.hints
effect_keeps P style admits state op hints after e all =
    let left = hints_left admits state (rule_of style admits state op) hints after e in
    subst (All P) (sym left.are) (All-drop P left.taken hints all)

shown_keeps : (P : Hint → Type 0) (match : ℕ → ℕ) (admits : Cond) (state : State) (line : ℕ) (row : Row) (hint : Hint) (hints left : List Hint)
    → row_shown_by match admits state line row hint hints ≡ Ok left → All P hints → All P left
shown_keeps P match admits state line row (Step proof) hints left e all =
    let found = where_ok (shows admits state proof (row_renamed match row)) (Ok hints) _ left e in
    subst (All P) (sym (ok_is hints left found.1)) all
shown_keeps P match admits state line row _ hints left e all = absurd (cc)

row_keeps : (P : Hint → Type 0) (match : ℕ → ℕ) (admits : Cond) (state : State) (line : ℕ) (row : Row) (hints left : List Hint)
    → row_by match admits state line row hints ≡ Ok left → All P hints → All P left
row_keeps P match admits state line row [] left e all = absurd (cc)
row_keeps P match admits state line row (hint ∷ hints) left e all = shown_keeps P match admits state line row hint hints left e (All-tail P hint hints all)

rows_keep : (P : Hint → Type 0) (match : ℕ → ℕ) (admits : Cond) (state : State) (line : ℕ) (rows : List Row) (hints left : List Hint)
    → rows_by match admits state line rows hints ≡ Ok left → All P hints → All P left
rows_keep P match admits state line [] hints left e all = subst (All P) (sym (ok_is hints left e)) all
rows_keep P match admits state line (row ∷ rows) hints left e all =
    let first = then_ok (row_by match admits state line row hints) (rows_by match admits state (suc line) rows) left e in
    rows_keep P match admits state (suc line) rows first.0 left first.2 (row_keeps P match admits state line row hints first.0 first.1 all)

-- the hints that a piece leaves which is shown
pub piece_keeps : (P : Hint → Type 0) (admits : Cond) (state : State) (piece : Piece) (kept : ℕ) (hints left : List Hint)
    → piece_by admits state piece kept hints ≡ Ok left → All P hints → All P left
piece_keeps P admits state piece kept hints left e =
    rows_keep P (match_of state piece kept) admits state (first_row_line piece) piece.rows hints left (shown_parts admits state piece kept hints left e).rows

-- the hints that are left of a state that comes to a unit
pub came_keeps : (P : Hint → Type 0) (unit : Passage) (admits : Cond) (pre : Piece) (state : State) (hints left : List Hint)
    → comes_by unit admits pre state hints ≡ Ok left → All P hints → All P left
came_keeps P unit admits pre state hints left e =
    rows_keep P (match_of state pre 0) admits state (first_row_line pre) pre.rows hints left (came_shows unit admits pre state hints left e).rows
