-- A piece of the list is numbered.
use Rattle.std.proofs.Common.{sym, subst}
use Rattle.sym_state.specs.declared.piece.Piece.{Piece}
use Rattle.sym_state.specs.Starting.{IsNumbered}
use Rattle.sym_state.proofs.raising.joined.Goals as goal

pub add_piece-requires-clause-numbered : goal.add_piece-requires-clause-numbered
add_piece-requires-clause-numbered c =
    subst (λ (piece : Piece). IsNumbered piece) (sym c.piece-item.is) (c.requires.numbered c.loop-piece.piece-index c.piece-item.result c.loop-piece-test.true)
