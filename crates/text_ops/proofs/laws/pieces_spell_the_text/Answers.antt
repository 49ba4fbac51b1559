use Rattle.text_ops.proofs.LawsOfPrefix.{spelled}
use Rattle.text_ops.proofs.laws.pieces_spell_the_text.Goals as goal

pub returns : goal.returns
returns c = λ text. spelled 0 text
