-- The law of `empty$`.
use Rattle.sym_state.proofs.Reading.{emptiness_is}
use Rattle.sym_state.proofs.laws.blank_as_the_machine_has_it.Goals as goal

pub returns : goal.returns
returns c = λ context value stack. emptiness_is context value stack
