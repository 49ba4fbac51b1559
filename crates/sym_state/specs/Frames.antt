-- What effects and cases leave of a state as it was (docs/EFFECTS.md, "What stays").
use Rattle.std.specs.Prelude.{◌≡◌, ◌≢◌, ◌+◌, ◌≤◌, ◌⊎◌, true, false, List, ◌∷◌, ◌++◌, reverse, Some}
use Rattle.std.specs.Option.{option_map_or}
use Rattle.lin_facts.specs.declared.row.Row.{Row}
use Rattle.name_table.specs.declared.builtin.Builtin.{Builtin}
use Rattle.name_table.specs.declared.builtin.Builtin.TheVariants.{Assign}
use Rattle.name_table.specs.declared.names.NameId.{NameId}
use Rattle.name_table.specs.declared.style.Style.{Style}
use Rattle.bst_meaning.specs.StyleParts.{kind_of}
use Rattle.sym_state.specs.declared.symbol.Fact.{Fact}
use Rattle.sym_state.specs.declared.symbol.Sym.{Sym}
use Rattle.sym_state.specs.State.{State}
use Rattle.sym_state.specs.Changes.{rebound, symbol_at}
use Rattle.sym_state.specs.Decided.{ByName, exact_function}
use Rattle.sym_state.specs.WellMade.{is_variable}

-- whether the whole stack is known and whether an entry is visited stay, and the fields keep their symbols; no symbol is given
-- back and at most one is new, and facts and rows are only added at the end
pub record Extends (old new : State) : Type 0 where
  pub whole : new.whole ≡ old.whole
  pub at_entry : new.at_entry ≡ old.at_entry
  pub fields : new.fields ≡ old.fields
  pub next : old.next ≤ new.next
  pub few : new.next ≤ old.next + 1
  pub facts : (more : List Fact) × (new.facts ≡ old.facts ++ more)
  pub rows : (more : List Row) × (new.rows ≡ old.rows ++ more)

-- beside that the variables keep their symbols
pub record LeavesVariables (old new : State) : Type 0 where
  pub extends : Extends old new
  pub vars : new.vars ≡ old.vars

-- beside that one variable gets a symbol and the others keep theirs: the one that the exact function of the top symbol names,
-- which is a global variable where the state isn't at an entry
pub record Assigns (style : Style) (old new : State) : Type 0 where
  pub extends : Extends old new
  pub top : Sym
  pub below : List Sym
  pub on_top : reverse old.stack ≡ top ∷ below
  pub name : NameId
  pub named : exact_function old.facts top.0 ≡ Some (ByName name)
  pub variable : option_map_or (is_variable old.at_entry) (kind_of style name) false ≡ true
  pub symbol : Sym
  pub vars : new.vars ≡ rebound name symbol old.vars
  pub others : (other : NameId) → other.0 ≢ name.0 → symbol_at other new.vars ≡ symbol_at other old.vars

-- what the effect of a built-in function may change: the variables keep their symbols, or it is `:=` and binds one
abbrev pub EffectFrame : Style → Builtin → State → State → Type 0
EffectFrame style op old new = LeavesVariables old new ⊎ ((op ≡ Assign) × Assigns style old new)
