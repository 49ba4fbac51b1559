-- The value is the text at the field's place.
use Rattle.std.proofs.Common.{◌∙◌, ap, get_or, sym, List}
use Rattle.bib_read.specs.RawFields.{RawField, no_field, or_nothing}
use Rattle.bib_read.proofs.PackedFields.{value_at}
use Rattle.bib_read.proofs.packed_fields.PackedFields.value.Goals as goal

pub returns : goal.returns
returns c =
    c.or_nothing.ensures
    ∙ ap or_nothing c.at.ensures
    ∙ sym (value_at c.self.inside.names c.self.inside.numbers.items c.self.inside.values c.args.at c.self.invariant)
    ∙ ap (λ (l : List RawField). (get_or l c.args.at no_field).value) c.self.view_is
