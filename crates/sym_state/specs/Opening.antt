-- What a state that starts from pieces stands for (docs/STATES.md, "Start from pieces").
use Rattle.std.specs.Prelude.{◌≡◌, ℕ, ◌<◌, ◌++◌, Bool, true, false, pos, ◌≤ℤ◌, List, [], Option, Some}
use Rattle.std.specs.List.{AllByRecursion, flat_map}
use Rattle.lin_facts.specs.Rows.{Holds}
use Rattle.name_table.specs.declared.names.Kind.{Kind}
use Rattle.name_table.specs.declared.names.Kind.TheVariants.{Field, IntEntry, StrEntry, IntGlobal, StrGlobal}
use Rattle.name_table.specs.declared.names.NameId.{NameId}
use Rattle.name_table.specs.declared.style.Style.{Style}
use Rattle.bst_meaning.specs.declared.value.TheConstants.{ENTRY_SIZE, GLOBAL_SIZE}
use Rattle.bst_meaning.specs.Config.{Config, EntryState, Variable}
use Rattle.bst_meaning.specs.Machine.{visited_entry}
use Rattle.bst_meaning.specs.StyleParts.{kind_of}
use Rattle.bst_meaning.specs.declared.condition.Cond.{Cond}
use Rattle.bst_meaning.specs.EntryLists.{EntryList}
use Rattle.bst_meaning.specs.declared.value.Value.{Value}
use Rattle.sym_state.specs.declared.piece.Piece.{Piece}
use Rattle.sym_state.specs.State.{State}
use Rattle.sym_state.specs.declared.symbol.Kinds.TheVariants.{Int, Str, Optional}
use Rattle.sym_state.specs.Facts.{FactHolds, emptiness, has_good_names, has_kind}
use Rattle.sym_state.specs.Stands.{HasList, IsBound, IsVisiting, Stands, value_by, values_of}
use Rattle.sym_state.specs.Starting.{bound_by, is_nonblank, most_names, names_in_play, numbered_on}
use Rattle.sym_state.specs.Symbols.{Agrees, IsValue, Valuation, length_of, name_count_of, numbers}

-- the value of a field is a string or missing, and as the condition says
pub record IsFieldValue (cond : Cond) (name : NameId) (value : Value) : Type 0 where
  pub kind : has_kind Optional value ≡ true
  pub ink : is_nonblank cond name ≡ true → emptiness value ≡ Some false
  pub length : length_of value ≤ℤ pos cond.length
  pub names : (most : ℕ) → most_names name cond.names ≡ Some most → (has_good_names value ≡ true) × (name_count_of value ≤ℤ pos most)

-- the value of a variable or field is of its kind, and no longer than its size
abbrev pub IsOfItsKind : Cond → Option Kind → NameId → Value → Type 0
IsOfItsKind cond (Some IntEntry) name value = has_kind Int value ≡ true
IsOfItsKind cond (Some IntGlobal) name value = has_kind Int value ≡ true
IsOfItsKind cond (Some StrEntry) name value = (has_kind Str value ≡ true) × (length_of value ≤ℤ pos ENTRY_SIZE)
IsOfItsKind cond (Some StrGlobal) name value = (has_kind Str value ≡ true) × (length_of value ≤ℤ pos GLOBAL_SIZE)
IsOfItsKind cond (Some Field) name value = IsFieldValue cond name value
IsOfItsKind cond _ name value = Unit {0}

-- a variable or field has a value among the global variables and those of an entry, and it is of its kind
pub record HasValue (style : Style) (cond : Cond) (globals : List Variable) (entry : Option EntryState) (name : NameId) : Type 0 where
  pub value : Value
  pub is : value_by (kind_of style name) name globals entry ≡ Some value
  pub valid : IsValue value
  pub kind : IsOfItsKind cond (kind_of style name) name value

-- pieces that are numbered on hold of a configuration, by one assignment to all their symbols
pub record PiecesHold (style : Style) (v : Valuation) (pieces : List Piece) (c : Config) (below : List Value) : Type 0 where
  pub stack : c.stack ≡ values_of v (flat_map (λ piece. piece.stack) pieces) ++ below
  pub binds : AllByRecursion (IsBound style v c.globals (visited_entry c)) (bound_by pieces)
  pub facts : AllByRecursion (FactHolds style v) (flat_map (λ piece. piece.facts) pieces)
  pub rows : AllByRecursion (Holds (numbers v)) (flat_map (λ piece. piece.rows) pieces)

-- the state that starts from pieces stands, by an assignment that agrees with theirs on their symbols
pub record StandsOpen (style : Style) (cond : Cond) (list : EntryList) (v : Valuation) (symbols : ℕ) (state : State) (c : Config) (below : List Value) : Type 0 where
  pub assignment : Valuation
  pub agrees : Agrees symbols v assignment
  pub stands : Stands style cond list assignment state c below

-- what is asked of a configuration for the state that starts from pieces to stand for it
pub record CanStart (style : Style) (cond : Cond) (list : EntryList) (v : Valuation) (pieces : List Piece) (whole at_entry : Bool) (c : Config) (below : List Value) : Type 0 where
  pub values : (s : ℕ) → IsValue (v.value s)
  pub has_list : HasList style cond list v c
  pub visiting : at_entry ≡ true → IsVisiting v c
  pub position : at_entry ≡ true → v.position < v.count
  pub hold : PiecesHold style v (numbered_on 0 pieces) c below
  pub bottom : whole ≡ true → below ≡ []
  pub have : AllByRecursion (HasValue style cond c.globals (visited_entry c)) (names_in_play style at_entry)
