use Rattle.text_ops.proofs.LawsOfPurify.{pure_pieces, short_pieces}
use Rattle.text_ops.proofs.laws.a_purified_text_is_pure.Goals as goal

pub returns-clause-pure : goal.returns-clause-pure
returns-clause-pure c = λ text. pure_pieces 0 text

pub returns-clause-short : goal.returns-clause-short
returns-clause-short c = λ text. short_pieces 0 text
