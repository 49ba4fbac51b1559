-- The state that starts from pieces (docs/STATES.md, "Start from pieces").
use Rattle.std.specs.Prelude.{ℕ, suc, ◌+◌, ◌<◌, pos, Bool, true, false, nat_eq, max, if◌then◌else◌, List, [], ◌∷◌, ◌++◌, map, Option, None, Some, is_none}
use Rattle.std.specs.List.{All, list_any, filter, flat_map, sum_by, count_by}
use Rattle.std.specs.Option.{option_map_or}
use Rattle.lin_facts.specs.declared.row.Row.{Row}
use Rattle.lin_facts.specs.declared.row.Term.TheVariants.{Length, Names}
use Rattle.name_table.specs.declared.names.NameId.{NameId}
use Rattle.name_table.specs.declared.names.Kind.{Kind}
use Rattle.name_table.specs.declared.names.Kind.TheVariants.{Field, IntEntry, StrEntry, IntGlobal, StrGlobal}
use Rattle.name_table.specs.declared.style.Style.{Style}
use Rattle.bst_meaning.specs.declared.value.TheConstants.{ENTRY_SIZE, GLOBAL_SIZE}
use Rattle.bst_meaning.specs.declared.condition.NamesLine.{NamesLine}
use Rattle.bst_meaning.specs.declared.condition.Cond.{Cond}
use Rattle.bst_meaning.specs.StyleParts.{kind_of}
use Rattle.sym_state.specs.declared.symbol.Sym.{Sym}
use Rattle.sym_state.specs.declared.symbol.Bind.{Bind}
use Rattle.sym_state.specs.declared.symbol.Kinds.TheVariants.{Int, Str, Optional}
use Rattle.sym_state.specs.declared.symbol.Fact.{Fact}
use Rattle.sym_state.specs.declared.symbol.Fact.TheVariants.{Is, Nonblank, Wellformed}
use Rattle.sym_state.specs.declared.piece.Piece.{Piece}
use Rattle.sym_state.specs.State.{State}
use Rattle.sym_state.specs.Changes.{symbol_at}
use Rattle.sym_state.specs.Facts.{subject}
use Rattle.sym_state.specs.References.{at_most}
use Rattle.sym_state.specs.Renaming.{piece_renamed}
use Rattle.sym_state.specs.WellMade.{HasByteText, HasShortText, HasSmallInteger, IsBounded, IsOfStyle, IsTermBelow, is_variable, is_field, takes_part, ids_from}

-- one more than the greatest symbol
abbrev pub symbol_count : List Sym → ℕ
symbol_count [] = 0
symbol_count (s ∷ syms) = max (suc s.0) (symbol_count syms)

-- the symbols at a piece's places: stack, variables, fields
abbrev pub placed : Piece → List Sym
placed piece = piece.stack ++ (map (λ bind. bind.sym) piece.vars ++ map (λ bind. bind.sym) piece.fields)

-- how many symbols a piece has, and how many some pieces have
abbrev pub symbols_of : Piece → ℕ
symbols_of piece = symbol_count (placed piece)

-- how many symbols pieces have together
abbrev pub all_symbols : List Piece → ℕ
all_symbols pieces = sum_by symbols_of pieces

-- a piece's facts and rows name symbols that it has
pub record IsNumbered (piece : Piece) : Type 0 where
  pub facts : All (λ fact. subject fact < symbols_of piece) piece.facts
  pub rows : All (λ row. All (λ part. IsTermBelow (symbols_of piece) part.term) row.parts) piece.rows

-- the names, blocks, integers and texts of a piece's facts are those of values, and its texts and rows are within their bounds
pub record IsFit (style : Style) (piece : Piece) : Type 0 where
  pub of_style : All (IsOfStyle style) piece.facts
  pub integers : All HasSmallInteger piece.facts
  pub bytes : All HasByteText piece.facts
  pub texts : All HasShortText piece.facts
  pub rows : All IsBounded piece.rows

-- a symbol that is numbered on
abbrev pub raised : ℕ → ℕ → ℕ
raised next s = next + s

-- the pieces with their symbols numbered on, piece after piece
abbrev pub numbered_on : ℕ → List Piece → List Piece
numbered_on next [] = []
numbered_on next (piece ∷ pieces) = piece_renamed (raised next) piece ∷ numbered_on (next + symbols_of piece) pieces

-- each of these names with the symbol that a piece binds to it, and where none does with the next symbol
abbrev pub seat : Option Sym → NameId → ℕ → (ℕ → List Bind) → List Bind
seat (Some sym) name next later = record { name = name; sym = sym } ∷ later next
seat None name next later = record { name = name; sym = record { 0 = next } } ∷ later (suc next)

-- the same of a list of names, from this symbol on
abbrev pub seats : List Bind → ℕ → List NameId → List Bind
seats binds next [] = []
seats binds next (name ∷ names) = seat (symbol_at name binds) name next (λ n. seats binds n names)

-- how many of these names no piece binds
abbrev pub unbound : List Bind → List NameId → ℕ
unbound binds names = count_by (λ name. is_none (symbol_at name binds)) names

-- the condition has a `nonblank` line for a field
abbrev pub is_nonblank : Cond → NameId → Bool
is_nonblank cond name = list_any (λ other. nat_eq other.0 name.0) cond.nonblank

-- the number of the condition's `names` line for a field
abbrev pub most_names : NameId → List NamesLine → Option ℕ
most_names name [] = None
most_names name (line ∷ lines) = if nat_eq line.field.0 name.0 then Some line.most else most_names name lines

-- a field is a string that isn't blank, or it may be missing
abbrev pub field_kind : Bool → Sym → List Fact
field_kind true sym = Is sym Str ∷ Nonblank sym ∷ []
field_kind false sym = Is sym Optional ∷ []

-- the names of a field are well formed where there is a line on them
abbrev pub name_facts : Option ℕ → Sym → List Fact
name_facts (Some most) sym = Wellformed sym ∷ []
name_facts None sym = []

-- and there are at most so many
abbrev pub name_rows : Option ℕ → Sym → List Row
name_rows (Some most) sym = at_most (Names sym.0) (pos most) ∷ []
name_rows None sym = []

-- the facts that a variable or a field gives of its own, by its kind
abbrev pub own_facts : Cond → Option Kind → Bind → List Fact
own_facts cond (Some IntEntry) bind = Is bind.sym Int ∷ []
own_facts cond (Some IntGlobal) bind = Is bind.sym Int ∷ []
own_facts cond (Some StrEntry) bind = Is bind.sym Str ∷ []
own_facts cond (Some StrGlobal) bind = Is bind.sym Str ∷ []
own_facts cond (Some Field) bind =
    field_kind (is_nonblank cond bind.name) bind.sym ++ name_facts (most_names bind.name cond.names) bind.sym
own_facts cond _ bind = []

-- its rows: a string is no longer than its variable's size, a field no longer than the condition says
abbrev pub own_rows : Cond → Option Kind → Bind → List Row
own_rows cond (Some StrEntry) bind = at_most (Length bind.sym.0) (pos ENTRY_SIZE) ∷ []
own_rows cond (Some StrGlobal) bind = at_most (Length bind.sym.0) (pos GLOBAL_SIZE) ∷ []
own_rows cond (Some Field) bind =
    at_most (Length bind.sym.0) (pos cond.length) ∷ name_rows (most_names bind.name cond.names) bind.sym
own_rows cond _ bind = []

-- the kind of a bound name passes a test
abbrev pub has_kind : Style → (Kind → Bool) → Bind → Bool
has_kind style test bind = option_map_or test (kind_of style bind.name) false

-- the state where the pieces' symbols are numbered on and each variable and field has its symbol
abbrev pub started_from : Style → Cond → List Piece → ℕ → List Bind → Bool → Bool → State
started_from style cond pieces next binds whole at_entry = record {
  stack = flat_map (λ piece. piece.stack) pieces;
  whole = whole;
  at_entry = at_entry;
  vars = filter (has_kind style (is_variable at_entry)) binds;
  fields = filter (has_kind style (is_field at_entry)) binds;
  facts = flat_map (λ piece. piece.facts) pieces ++ flat_map (λ bind. own_facts cond (kind_of style bind.name) bind) binds;
  rows = flat_map (λ piece. piece.rows) pieces ++ flat_map (λ bind. own_rows cond (kind_of style bind.name) bind) binds;
  next = next;
}

-- what the pieces bind
abbrev pub bound_by : List Piece → List Bind
bound_by pieces = flat_map (λ piece. piece.vars ++ piece.fields) pieces

-- the names that have a value, in the order of ids
abbrev pub names_in_play : Style → Bool → List NameId
names_in_play style at_entry = ids_from (takes_part at_entry) 0 style.names

-- the state that pieces start: their symbols are numbered on, then come those of names that none binds
abbrev pub started : Style → Cond → List Piece → Bool → Bool → State
started style cond pieces whole at_entry =
    let on = numbered_on 0 pieces in
    let names = names_in_play style at_entry in
    let first = all_symbols pieces in
    started_from style cond on (first + unbound (bound_by on) names) (seats (bound_by on) first names) whole at_entry
