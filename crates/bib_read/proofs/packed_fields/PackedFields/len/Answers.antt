-- Each field has a number.
use Rattle.std.proofs.Common.{◌≡◌, ◌∙◌, ap, arith, length, sym, List}
use Rattle.bib_read.specs.RawFields.{RawField}
use Rattle.bib_read.proofs.PackedFields.{as_many}
use Rattle.bib_read.proofs.packed_fields.PackedFields.len.Goals as goal

pub returns : goal.returns
returns c =
    let count : c.len.result ≡ length c.self.inside.numbers.items = omega (arith, c.len.ensures) in
    count
    ∙ sym (as_many c.self.inside.names c.self.inside.numbers.items c.self.inside.values c.self.invariant)
    ∙ ap (λ (l : List RawField). length l) c.self.view_is
