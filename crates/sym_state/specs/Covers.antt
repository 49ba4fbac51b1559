-- What it is for an effect, or for cases, to cover what the machine does (docs/EFFECTS.md, "What effects cover").
use Rattle.std.specs.Prelude.{◌≡◌, List, Ok}
use Rattle.bv_base.specs.declared.place.Place.{Place}
use Rattle.name_table.specs.declared.builtin.Builtin.{Builtin}
use Rattle.name_table.specs.declared.style.Style.{Style}
use Rattle.name_table.specs.declared.style.Token.{Token}
use Rattle.bst_meaning.specs.declared.condition.Cond.{Cond}
use Rattle.bst_meaning.specs.EntryLists.{EntryList}
use Rattle.bst_meaning.specs.declared.value.Value.{Value}
use Rattle.bst_meaning.specs.Builtins.{built_in}
use Rattle.bst_meaning.specs.Config.{Config}
use Rattle.bst_meaning.specs.Effect.{Effect}
use Rattle.bst_meaning.specs.Machine.{context_of, token_step, with_effect, with_value}
use Rattle.sym_state.specs.State.{State}
use Rattle.sym_state.specs.Stands.{Stands}
use Rattle.sym_state.specs.Symbols.{Agrees, Valuation}

-- where a state stands for a configuration by an assignment: a built-in function gives no fault there, and the state after it
-- stands for the configuration after it, by an assignment that agrees on the symbols that were there, above the same values
pub record Covers (style : Style) (cond : Cond) (list : EntryList) (v : Valuation) (state : State) (c : Config) (below : List Value)
    (place : Place) (op : Builtin) (after : State) : Type 0 where
  pub effect : Effect
  pub gives : built_in op (context_of style c) c.stack ≡ Ok effect
  pub assignment : Valuation
  pub agrees : Agrees state.next v assignment
  pub stands : Stands style cond list assignment after (with_effect style (Ok effect) place c) below

-- the same of a token that pushes: the machine pushes one value, and the state after it stands with that on top
pub record CoversPush (style : Style) (cond : Cond) (list : EntryList) (v : Valuation) (state : State) (c : Config) (below : List Value)
    (place : Place) (token : Token) (after : State) : Type 0 where
  pub value : Value
  pub pushes : token_step style token place c ≡ with_value value c
  pub assignment : Valuation
  pub agrees : Agrees state.next v assignment
  pub stands : Stands style cond list assignment after (with_value value c) below
