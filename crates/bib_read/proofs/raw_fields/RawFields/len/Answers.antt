-- Each field has two texts.
use Rattle.std.proofs.Common.{◌≡◌, ◌∙◌, ◌/◌, ap, List, length, arith}
use Rattle.bib_read.specs.RawFields.{RawField, fields_in}
use Rattle.bib_read.proofs.FieldLists.{two_each}
use Rattle.bib_read.proofs.raw_fields.RawFields.len.Goals as goal

pub returns : goal.returns
returns c =
    let half : c.len.result / 2 ≡ length (fields_in c.self.inside.texts) =
    omega (arith, c.len.ensures, two_each c.self.inside.texts c.self.invariant) in
    half ∙ ap (λ (l : List RawField). length l) c.self.view_is
