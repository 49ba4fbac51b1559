-- The law of pieces that are entailed.
use Rattle.sym_state.proofs.Entailed.{unentailed_none}
use Rattle.sym_state.proofs.laws.entailed_pieces_hold.Goals as goal

pub returns : goal.returns
returns c = λ style admits list v state config below piece kept proofs none stands. unentailed_none style admits list v state config below piece kept proofs none stands
