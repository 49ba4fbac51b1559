-- What stands between commands (docs/CHECKER.md, "Commands"): a piece on global variables and a piece on one entry.
use Rattle.std.specs.Prelude.{ℕ, suc, List, [], ◌∷◌, map}
use Rattle.name_table.specs.declared.names.Kind.{Kind}
use Rattle.name_table.specs.declared.style.Style.{Style}
use Rattle.bst_meaning.specs.Config.{Variable, opening_entry_variable, opening_global, opening_variables}
use Rattle.bst_meaning.specs.declared.value.Value.{Value}
use Rattle.bst_meaning.specs.declared.value.Value.TheVariants.{Int, Str}
use Rattle.sym_state.specs.Positions.{Position, row_moved}
use Rattle.sym_state.specs.declared.piece.Piece.{Piece}
use Rattle.sym_state.specs.declared.symbol.Bind.{Bind}
use Rattle.sym_state.specs.declared.symbol.Fact.{Fact}
use Rattle.sym_state.specs.declared.symbol.Fact.TheVariants.{Int as IntFact, Text as TextFact}
use Rattle.command_flow.specs.declared.between.Between.{Between}
use Rattle.command_flow.specs.declared.between.Owner.{Owner}
use Rattle.command_flow.specs.declared.between.Owner.TheVariants.{Style as OfStyle, Entry as OfEntry}

-- a piece that says nothing
abbrev pub nothing : Piece
nothing = record { stack = []; vars = []; fields = []; facts = []; rows = [] }

-- variables, each with a symbol of its own; they are numbered from here
abbrev pub own_symbols : ℕ → List Variable → List Bind
own_symbols next [] = []
own_symbols next (variable ∷ variables) = record { name = variable.name; sym = record { 0 = next } } ∷ own_symbols (suc next) variables

-- a symbol is exactly a value, before other facts
abbrev pub exact_fact : ℕ → Value → List Fact → List Fact
exact_fact s (Int n) later = IntFact (record { 0 = s }) n ∷ later
exact_fact s (Str text) later = TextFact (record { 0 = s }) text ∷ later
exact_fact s _ later = later

-- the symbols of variables are exactly their values; they are numbered from here
abbrev pub exact_facts : ℕ → List Variable → List Fact
exact_facts next [] = []
exact_facts next (variable ∷ variables) = exact_fact next variable.value (exact_facts (suc next) variables)

-- the piece that says of variables what they are
abbrev pub exactly : List Variable → Piece
exactly variables = record { stack = []; vars = own_symbols 0 variables; fields = []; facts = exact_facts 0 variables; rows = [] }

-- the variable that a name declares, as it opens: of the whole style, or of each entry
abbrev pub opening_of : Owner → ℕ → Kind → List Variable → List Variable
opening_of OfStyle id kind later = opening_global id kind later
opening_of OfEntry id kind later = opening_entry_variable id kind later

-- before the first command each variable has the value with which it opens
abbrev pub opened : Style → Between
opened style = record {
  globals = exactly (opening_variables opening_global 0 style.names);
  entry = exactly (opening_variables opening_entry_variable 0 style.names);
}

-- a piece of which each row has another number of visited entries in place of its own
abbrev pub piece_moved : Position → Piece → Piece
piece_moved p piece = record piece { rows = map (row_moved p) piece.rows }
