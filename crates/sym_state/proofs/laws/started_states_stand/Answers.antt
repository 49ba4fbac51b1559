-- The law of started states.
use Rattle.sym_state.proofs.Opened.{opened}
use Rattle.sym_state.proofs.laws.started_states_stand.Goals as goal

pub returns : goal.returns
returns c = λ style admits list v pieces whole at_entry config below numbered can. opened style admits list v pieces whole at_entry config below numbered can
