-- A state that stands for a configuration at a place, with all that surrounds it.
use Rattle.std.proofs.Common.{List}
use Rattle.bv_base.specs.declared.place.Place.{Place}
use Rattle.name_table.specs.declared.style.Style.{Style}
use Rattle.bst_meaning.specs.declared.condition.Cond.{Cond}
use Rattle.bst_meaning.specs.EntryLists.{EntryList}
use Rattle.bst_meaning.specs.declared.value.Value.{Value}
use Rattle.bst_meaning.specs.Config.{Config}
use Rattle.sym_state.specs.State.{State}
use Rattle.sym_state.specs.Stands.{Stands}
use Rattle.sym_state.specs.Symbols.{Valuation}
use Rattle.sym_state.specs.WellMade.{WellMade}

pub record Spot : Type 0 where
  pub style : Style
  pub admits : Cond
  pub list : EntryList
  pub v : Valuation
  pub state : State
  pub c : Config
  pub below : List Value
  pub place : Place
  pub made : WellMade style state
  pub stands : Stands style admits list v state c below

-- a spot of all its parts
abbrev pub spot_of : (style : Style) (admits : Cond) (list : EntryList) (v : Valuation) (state : State) (c : Config) (below : List Value) (place : Place) → WellMade style state
    → Stands style admits list v state c below → Spot
spot_of style admits list v state c below place made stands = record {
  style = style;
  admits = admits;
  list = list;
  v = v;
  state = state;
  c = c;
  below = below;
  place = place;
  made = made;
  stands = stands;
}
