-- What is asked of one state under one condition, and what a search that answers has at hand (docs/STATES.md, "Straight proofs").
use Rattle.std.specs.Prelude.{◌≡◌, List}
use Rattle.lin_facts.specs.declared.row.Row.{Row}
use Rattle.bst_meaning.specs.declared.condition.Cond.{Cond}
use Rattle.sym_state.specs.State.{State}
use Rattle.sym_state.specs.WellMade.{HasBounds}
use Rattle.straight_proofs.specs.Lookup.{rows_in_reach}
use Rattle.straight_proofs.specs.Remembered.{HaveFloors, HaveRows}
use Rattle.straight_proofs.specs.declared.learnt.Learnt.{Learnt}

-- a state and the condition under which it is looked at
pub record Asked : Type 0 where
  pub state : State
  pub cond : Cond

-- the rows of the state that references can name, and floors and rows of it
pub record IsReady (cond : Cond) (state : State) (copied : List Row) (learnt : Learnt) : Type 0 where
  pub bounds : HasBounds state
  pub rows : copied ≡ rows_in_reach state
  pub floors : HaveFloors cond state learnt.floors
  pub with : HaveRows (λ rows. rows.value.items) cond state learnt.rows
