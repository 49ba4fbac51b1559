-- Symbols renamed in terms, rows, facts and pieces (docs/STATES.md, "Renaming").
use Rattle.std.specs.Prelude.{ℕ, map}
use Rattle.lin_facts.specs.declared.row.Row.{Row}
use Rattle.lin_facts.specs.declared.row.Term.{Term}
use Rattle.lin_facts.specs.declared.row.Term.TheVariants.{Value, Length, Names, Pos, Count}
use Rattle.sym_state.specs.declared.symbol.Sym.{Sym}
use Rattle.sym_state.specs.declared.symbol.Bind.{Bind}
use Rattle.sym_state.specs.declared.symbol.Fact.{Fact}
use Rattle.sym_state.specs.declared.symbol.Fact.TheVariants.{Is, Int, Text, Call, Block, Blank, Nonblank, Wellformed}
use Rattle.sym_state.specs.declared.piece.Piece.{Piece}
use Rattle.sym_state.specs.Symbols.{Valuation}

-- a symbol by its new number
abbrev pub sym_renamed : (ℕ → ℕ) → Sym → Sym
sym_renamed name s = record { 0 = name s.0 }

-- a name with its symbol renamed
abbrev pub bind_renamed : (ℕ → ℕ) → Bind → Bind
bind_renamed name bind = record { name = bind.name; sym = sym_renamed name bind.sym }

-- a fact on the symbol renamed
abbrev pub fact_renamed : (ℕ → ℕ) → Fact → Fact
fact_renamed name (Is s kind) = Is (sym_renamed name s) kind
fact_renamed name (Int s n) = Int (sym_renamed name s) n
fact_renamed name (Text s text) = Text (sym_renamed name s) text
fact_renamed name (Call s id) = Call (sym_renamed name s) id
fact_renamed name (Block s number) = Block (sym_renamed name s) number
fact_renamed name (Blank s) = Blank (sym_renamed name s)
fact_renamed name (Nonblank s) = Nonblank (sym_renamed name s)
fact_renamed name (Wellformed s) = Wellformed (sym_renamed name s)

-- a term of the symbol renamed
abbrev pub term_renamed : (ℕ → ℕ) → Term → Term
term_renamed name (Value s) = Value (name s)
term_renamed name (Length s) = Length (name s)
term_renamed name (Names s) = Names (name s)
term_renamed name Pos = Pos
term_renamed name Count = Count

-- a row of terms renamed
abbrev pub row_renamed : (ℕ → ℕ) → Row → Row
row_renamed name row = record {
  constant = row.constant;
  parts = map (λ part. record { coefficient = part.coefficient; term = term_renamed name part.term }) row.parts;
}

-- a piece, of which each symbol is renamed
abbrev pub piece_renamed : (ℕ → ℕ) → Piece → Piece
piece_renamed name piece = record {
  stack = map (sym_renamed name) piece.stack;
  vars = map (bind_renamed name) piece.vars;
  fields = map (bind_renamed name) piece.fields;
  facts = map (fact_renamed name) piece.facts;
  rows = map (row_renamed name) piece.rows;
}

-- the assignment by which each symbol has the value of the one that it is renamed to
abbrev pub through : (ℕ → ℕ) → Valuation → Valuation
through name v = record { value = λ s. v.value (name s); position = v.position; count = v.count }
