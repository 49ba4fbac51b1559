-- What the checker knows of a configuration of the machine (docs/STATES.md): a symbolic state as contracts see it.
use Rattle.std.specs.Prelude.{ℕ, Bool, List}
use Rattle.lin_facts.specs.declared.row.Row.{Row}
use Rattle.sym_state.specs.declared.symbol.Sym.{Sym}
use Rattle.sym_state.specs.declared.symbol.Bind.{Bind}
use Rattle.sym_state.specs.declared.symbol.Fact.{Fact}

-- the known top of the literal stack with its top last, whether that is the whole stack, whether an entry is visited, the symbols
-- bound to variables and to the entry's fields upwards by id, facts, rows, and the number below which symbols are the state's
pub record State : Type 0 where
  pub stack : List Sym
  pub whole : Bool
  pub at_entry : Bool
  pub vars : List Bind
  pub fields : List Bind
  pub facts : List Fact
  pub rows : List Row
  pub next : ℕ
