-- The law of rows on another position.
use Rattle.sym_state.proofs.Moving.{moved_bounded, row_moves}
use Rattle.sym_state.proofs.laws.rows_move.Goals as goal

pub returns : goal.returns
returns c = record {
  holds = λ p v row. row_moves p v row;
  bounds = λ p row bounded few. moved_bounded p row bounded few;
}
