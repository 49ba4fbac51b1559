use Rattle.text_ops.proofs.WidthBounds.{bounded_pieces}
use Rattle.text_ops.proofs.laws.a_width_is_bounded.Goals as goal

pub returns : goal.returns
returns c = λ text. bounded_pieces 0 text
