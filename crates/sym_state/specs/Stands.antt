-- What a symbolic state stands for (docs/STATES.md, "What a state stands for").
use Rattle.std.specs.Prelude.{◌≡◌, ℕ, ◌<◌, ◌≤◌, true, List, [], ◌++◌, length, map, reverse, Option, None, Some, IsPermutation}
use Rattle.std.specs.List.{AllByRecursion}
use Rattle.std.specs.Option.{option_map, option_and_then}
use Rattle.lin_facts.specs.Rows.{Holds}
use Rattle.name_table.specs.declared.names.NameId.{NameId}
use Rattle.name_table.specs.declared.names.Kind.{Kind}
use Rattle.name_table.specs.declared.names.Kind.TheVariants.{Field, IntEntry, StrEntry, IntGlobal, StrGlobal}
use Rattle.name_table.specs.declared.style.Style.{Style}
use Rattle.bst_meaning.specs.declared.condition.Cond.{Cond}
use Rattle.bst_meaning.specs.EntryLists.{EntryList}
use Rattle.bst_meaning.specs.declared.value.Value.{Value}
use Rattle.bst_meaning.specs.StyleParts.{kind_of}
use Rattle.bst_meaning.specs.Entries.{Fits}
use Rattle.bst_meaning.specs.Condition.{Meets}
use Rattle.bst_meaning.specs.Config.{Config, EntryState, Variable, Visit}
use Rattle.bst_meaning.specs.Machine.{visited_entry, value_at, field_in}
use Rattle.sym_state.specs.declared.symbol.Sym.{Sym}
use Rattle.sym_state.specs.declared.symbol.Bind.{Bind}
use Rattle.sym_state.specs.declared.piece.Piece.{Piece}
use Rattle.sym_state.specs.State.{State}
use Rattle.sym_state.specs.Symbols.{Valuation, IsValue, numbers}
use Rattle.sym_state.specs.Facts.{FactHolds}

-- the values of symbols on a stack, whose top is the last symbol: the top first, as the machine has them
abbrev pub values_of : Valuation → List Sym → List Value
values_of v stack = map (λ s. v.value s.0) (reverse stack)

-- the value of a variable or a field by its kind, among the global variables and those of an entry, if there is one
abbrev pub value_by : Option Kind → NameId → List Variable → Option EntryState → Option Value
value_by (Some Field) name globals entry = option_map (λ e. field_in name e.entry.fields) entry
value_by (Some IntEntry) name globals entry = option_and_then (λ e. value_at name.0 e.variables) entry
value_by (Some StrEntry) name globals entry = option_and_then (λ e. value_at name.0 e.variables) entry
value_by (Some IntGlobal) name globals entry = value_at name.0 globals
value_by (Some StrGlobal) name globals entry = value_at name.0 globals
value_by _ name globals entry = None

-- a variable or a field has the value of its symbol there
abbrev pub IsBound : Style → Valuation → List Variable → Option EntryState → Bind → Type 0
IsBound style v globals entry bind = value_by (kind_of style bind.name) bind.name globals entry ≡ Some (v.value bind.sym.0)

-- the list fits the style and meets the condition, and the configuration has its preamble and its entries, in some order
pub record HasList (style : Style) (cond : Cond) (list : EntryList) (v : Valuation) (c : Config) : Type 0 where
  pub fits : Fits style list
  pub meets : Meets style cond list
  pub preamble : c.preamble ≡ list.preamble
  pub entries : IsPermutation list.entries (map (λ e. e.entry) c.entries)
  pub count : v.count ≡ length list.entries

-- an entry is visited, and `position` is the number of those visited before it
pub record IsVisiting (v : Valuation) (c : Config) : Type 0 where
  pub entry : EntryState
  pub is_visited : visited_entry c ≡ Some entry
  pub visit : Visit
  pub goes_on : c.visit ≡ Some visit
  pub before : v.position ≡ visit.visited

-- by an assignment to values of the machine all holds that a state says without a configuration: its facts, its rows, that
-- there are no more entries than the condition admits, and that at an entry fewer were visited before than there are
pub record Satisfies (style : Style) (cond : Cond) (v : Valuation) (state : State) : Type 0 where
  pub values : (s : ℕ) → IsValue (v.value s)
  pub count : v.count ≤ cond.entries
  pub position : state.at_entry ≡ true → v.position < v.count
  pub facts : AllByRecursion (FactHolds style v) state.facts
  pub rows : AllByRecursion (Holds (numbers v)) state.rows

-- by an assignment a state stands for a configuration over a list, where these values lie on the literal stack below
-- those that the state knows
pub record Stands (style : Style) (cond : Cond) (list : EntryList) (v : Valuation) (state : State) (c : Config) (below : List Value) : Type 0 where
  pub satisfied : Satisfies style cond v state
  pub has_list : HasList style cond list v c
  pub visiting : state.at_entry ≡ true → IsVisiting v c
  pub stack : c.stack ≡ values_of v state.stack ++ below
  pub whole : state.whole ≡ true → below ≡ []
  pub vars : AllByRecursion (IsBound style v c.globals (visited_entry c)) state.vars
  pub fields : AllByRecursion (IsBound style v c.globals (visited_entry c)) state.fields

-- by an assignment to its own symbols a piece says of the global variables and an entry what holds: all but its stack
pub record IsMet (style : Style) (v : Valuation) (piece : Piece) (globals : List Variable) (entry : Option EntryState) : Type 0 where
  pub vars : AllByRecursion (IsBound style v globals entry) piece.vars
  pub fields : AllByRecursion (IsBound style v globals entry) piece.fields
  pub facts : AllByRecursion (FactHolds style v) piece.facts
  pub rows : AllByRecursion (Holds (numbers v)) piece.rows

-- a piece holds of a configuration by an assignment to its own symbols, where these values lie below its stack
pub record PieceHolds (style : Style) (v : Valuation) (piece : Piece) (c : Config) (below : List Value) : Type 0 where
  pub stack : c.stack ≡ values_of v piece.stack ++ below
  pub met : IsMet style v piece c.globals (visited_entry c)
