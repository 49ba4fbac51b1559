-- The law of pieces that are shown by hints.
use Rattle.sym_state.proofs.ShownPieces.{shown_piece_holds}
use Rattle.sym_state.proofs.laws.shown_pieces_hold.Goals as goal

pub returns : goal.returns
returns c = λ style admits list v state config below piece kept hints left shown stands. shown_piece_holds style admits list v state config below piece kept hints left shown stands
