-- States that have bounds.
use Rattle.std.proofs.Common.{Result, Ok, Err, IfOk}
use Rattle.sym_state.specs.WellMade.{HasBounds, WellMade}
use Rattle.sym_state.specs.declared.state.State.{State}
use Rattle.name_table.specs.declared.style.Style.{Style}

-- a state that is well made has bounds
pub bounds_where : {E : Type 0} (style : Style) (r : Result State E) → IfOk r (WellMade style) → IfOk r HasBounds
bounds_where style (Ok state) made = made.bounds
bounds_where style (Err e) made = made
