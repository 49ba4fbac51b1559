-- What it is for the cases of a test to cover what the machine does (docs/EFFECTS.md, "Cases").
use Rattle.std.specs.Prelude.{◌≡◌, ◌⊎◌, Bool, if◌then◌else◌, List, [], ◌∷◌, Option, None, Some}
use Rattle.std.specs.Option.{option_map_or}
use Rattle.bv_base.specs.declared.place.Place.{Place}
use Rattle.name_table.specs.declared.builtin.Builtin.{Builtin}
use Rattle.name_table.specs.declared.builtin.Builtin.TheVariants as op
use Rattle.name_table.specs.declared.style.Style.{Style}
use Rattle.bst_meaning.specs.declared.condition.Cond.{Cond}
use Rattle.bst_meaning.specs.EntryLists.{EntryList}
use Rattle.bst_meaning.specs.declared.value.Value.{Value}
use Rattle.bst_meaning.specs.Config.{Config}
use Rattle.sym_state.specs.State.{State}
use Rattle.sym_state.specs.declared.symbol.Sym.{Sym}
use Rattle.sym_state.specs.declared.test.Test.{Test}
use Rattle.sym_state.specs.declared.test.Test.TheVariants.{Empty, Missing, Equal, Less, Greater, Above}
use Rattle.sym_state.specs.Cases.{not_positive_rows, positive_rows, with_case}
use Rattle.sym_state.specs.Covers.{Covers}
use Rattle.sym_state.specs.Decided.{exact_integer}
use Rattle.sym_state.specs.Stands.{Stands}
use Rattle.sym_state.specs.Symbols.{Valuation}

-- the built-in function that a test is of
abbrev pub function_of : Test → Option Builtin
function_of Empty = Some op.Empty
function_of Missing = Some op.Missing
function_of Equal = Some op.Equal
function_of Less = Some op.Less
function_of Greater = Some op.Greater
function_of (Above s) = None

-- this is one of these
abbrev pub IsAmong : {X : Type 0} → X → List X → Type 0
IsAmong x [] = ⊥
IsAmong x (first ∷ xs) = (x ≡ first) ⊎ IsAmong x xs

-- one of these states covers what a built-in function does where a state stands for a configuration
pub record OneCovers (style : Style) (cond : Cond) (list : EntryList) (v : Valuation) (state : State) (c : Config) (below : List Value)
    (place : Place) (op : Builtin) (states : List State) : Type 0 where
  pub after : State
  pub among : IsAmong after states
  pub covers : Covers style cond list v state c below place op after

-- the case of an integer above 0, or of one that isn't: the state itself where the integer is known
abbrev pub above_case : State → Sym → Bool → State
above_case state s positive =
    option_map_or (λ n. state) (exact_integer state.facts s.0)
    (with_case [] (if positive then positive_rows s else not_positive_rows s) state)

-- that case is one of these states, and it stands for the configuration as the state does
pub record OneStands (style : Style) (cond : Cond) (list : EntryList) (v : Valuation) (state : State) (c : Config) (below : List Value)
    (s : Sym) (positive : Bool) (states : List State) : Type 0 where
  pub among : IsAmong (above_case state s positive) states
  pub stands : Stands style cond list v (above_case state s positive) c below

-- that case, with the label of the integer's sign, is one of these, and it stands for the configuration as the state does
pub record OneLabelledStands (style : Style) (cond : Cond) (list : EntryList) (v : Valuation) (state : State) (c : Config) (below : List Value)
    (s : Sym) (positive : Bool) (cases : List (Bool × State)) : Type 0 where
  pub among : IsAmong (positive, above_case state s positive) cases
  pub stands : Stands style cond list v (above_case state s positive) c below
