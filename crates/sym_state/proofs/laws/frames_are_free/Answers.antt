-- The law of frames.
use Rattle.sym_state.proofs.Pushing.{stands_framed}
use Rattle.sym_state.proofs.laws.frames_are_free.Goals as goal

pub returns : goal.returns
returns c = λ style admits list v state config below frames stands. stands_framed style admits list v state config below frames stands
