-- Changes of a state (docs/STATES.md, "Changes").
use Rattle.std.specs.Prelude.{◌+◌, nat_eq, if◌then◌else◌, List, [], ◌∷◌, ◌++◌, Option, None, Some}
use Rattle.std.specs.Option.{option_or}
use Rattle.name_table.specs.declared.names.NameId.{NameId}
use Rattle.sym_state.specs.declared.symbol.Sym.{Sym}
use Rattle.sym_state.specs.declared.symbol.Bind.{Bind}
use Rattle.sym_state.specs.declared.symbol.Kinds.{Kinds}
use Rattle.sym_state.specs.declared.symbol.Kinds.TheVariants.{Any}
use Rattle.sym_state.specs.declared.symbol.Fact.{Fact}
use Rattle.sym_state.specs.declared.symbol.Fact.TheVariants.{Is}
use Rattle.sym_state.specs.State.{State}

-- the symbol that is bound to a name
abbrev pub symbol_at : NameId → List Bind → Option Sym
symbol_at name [] = None
symbol_at name (bind ∷ binds) = if nat_eq bind.name.0 name.0 then Some bind.sym else symbol_at name binds

-- the binding of a name is replaced
abbrev pub rebound : NameId → Sym → List Bind → List Bind
rebound name sym [] = []
rebound name sym (bind ∷ binds) =
    if nat_eq bind.name.0 name.0 then record { name = name; sym = sym } ∷ binds else bind ∷ rebound name sym binds

-- bindings after changes of some of them, of which the newest comes first
abbrev pub changed : List Bind → List Bind → List Bind
changed [] binds = binds
changed (change ∷ older) binds = rebound change.name change.sym (changed older binds)

-- a state with another binding of a name, which is a variable or a field
abbrev pub with_bind : NameId → Sym → State → State
with_bind name sym state = record state { vars = rebound name sym state.vars; fields = rebound name sym state.fields }

-- the symbol that a state binds to a variable or a field
abbrev pub bound : NameId → State → Option Sym
bound name state = option_or (symbol_at name state.vars) (symbol_at name state.fields)

-- the fact of a kind; the kind of every value makes none
abbrev pub kind_facts : Sym → Kinds → List Fact
kind_facts sym Any = []
kind_facts sym kind = Is sym kind ∷ []

-- a state with one symbol more
abbrev pub with_fresh : Kinds → State → State
with_fresh kind state = record state {
  facts = state.facts ++ kind_facts (record { 0 = state.next }) kind;
  next = state.next + 1;
}
