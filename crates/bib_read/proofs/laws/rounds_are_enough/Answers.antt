use Rattle.std.proofs.Common.{length, arith}
use Rattle.bib_read.proofs.Enough.{same_fields, same_items, same_pieces}
use Rattle.bib_read.proofs.laws.rounds_are_enough.Goals as goal

pub returns : goal.returns
returns c = record {
  pieces = λ n p enough. same_pieces n (length p.left) p enough (omega arith);
  fields = λ n close key p enough. same_fields n (length p.left) close key p enough (omega arith);
  items = λ n p enough. same_items n (length p.left) p enough (omega arith);
}
