-- Room for new symbols (docs/CHECKER.md, "The walk"): what a walk keeps of its states, so that each has a number for the next one.
use Rattle.std.specs.Prelude.{ℕ, ◌+◌, ◌-◌, ◌*◌, ◌≤◌, Bool, List, length}
use Rattle.std.specs.List.{All}
use Rattle.name_table.specs.declared.style.Style.{Style}
use Rattle.sym_state.specs.State.{State}
use Rattle.sym_state.specs.WellMade.{WellMade}
use Rattle.cert_check.specs.Courses.{Course}

-- a state is well made, and it has so many symbols less at least than 2147483648 and 65 for each that has counted
pub record HasRoom (style : Style) (more count : ℕ) (state : State) : Type 0 where
  pub made : WellMade style state
  pub few : state.next + more ≤ 2147483648 + 65 * count

-- so have the states that the token in hand has given so far
abbrev pub GivesRoom : Style → Course → Type 0
GivesRoom style course = All (HasRoom style 0 course.count) course.given

-- a rule keeps it, and the count doesn't fall
pub record KeepsRoom (style : Style) (before after : Course) : Type 0 where
  pub count : before.count ≤ after.count
  pub given : GivesRoom style before → GivesRoom style after

-- a case of `if$` has room for what it enters, and no more operands than these may be known in it
pub record IsCaseWithin (style : Style) (known count : ℕ) (case : Bool × State) : Type 0 where
  pub room : HasRoom style 64 count case.1
  pub operands : length case.1.stack ≤ known

-- the cases of an `if$` by the operands of which no more than these may be known: three are taken
pub record AreWithin (style : Style) (known count : ℕ) (cases : List (Bool × State)) : Type 0 where
  pub some : 3 ≤ known
  pub each : All (IsCaseWithin style (known - 3) count) cases

-- a state at the end of a walk is well made, and there is room for a symbol more
pub record IsEnd (style : Style) (state : State) : Type 0 where
  pub made : WellMade style state
  pub few : state.next ≤ 2212483648
