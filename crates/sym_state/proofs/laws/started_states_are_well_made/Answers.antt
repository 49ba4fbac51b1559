-- The law of started states, and their bounds.
use Rattle.sym_state.proofs.Keeping.{started_well_made}
use Rattle.sym_state.proofs.laws.started_states_are_well_made.Goals as goal

pub returns : goal.returns
returns c = λ style admits pieces whole at_entry small numbered fit. started_well_made style admits pieces whole at_entry small numbered fit
