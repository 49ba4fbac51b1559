-- The law of rows that are shown.
use Rattle.sym_state.proofs.Shown.{shown_holds}
use Rattle.sym_state.proofs.laws.shown_rows_hold.Goals as goal

pub returns : goal.returns
returns c = λ style admits v state proof row satisfied shown. shown_holds style admits v state proof row satisfied shown
