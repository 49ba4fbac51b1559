-- The field at a place has the name and the value that stand there.
use Rattle.std.proofs.Common.{arith, sym}
use Rattle.std.proofs.lemmas.Option.{slice_get_past}
use Rattle.bib_read.proofs.PackedFields.{read_field}
use Rattle.bib_read.proofs.packed_fields.PackedFields.get.Goals as goal

pub returns-then-at-len : goal.returns-then-at-len
returns-then-at-len c = sym (slice_get_past c.args.self.now c.args.at (omega (arith, c.if-at-len.true, c.len.ensures)))

pub returns : goal.returns
returns c =
    read_field c.args.self.now c.args.at c.name.result.now c.value.result.now (omega (arith, c.if-at-len.false, c.len.ensures))
    c.name.ensures c.value.ensures
