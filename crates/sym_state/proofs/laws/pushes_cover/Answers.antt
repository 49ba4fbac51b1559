-- The law of tokens that push, on what stands.
use Rattle.sym_state.proofs.Spots.{spot_of}
use Rattle.sym_state.proofs.Pushes.{push_stands}
use Rattle.sym_state.proofs.laws.pushes_cover.Goals as goal

pub returns : goal.returns
returns c = λ style admits list v state config below place token after sound fits made stands is.
    push_stands (spot_of style admits list v state config below place made stands) token after sound fits is
