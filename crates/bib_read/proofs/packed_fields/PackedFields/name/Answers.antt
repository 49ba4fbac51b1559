-- The name is that of the number at the field's place.
use Rattle.std.proofs.Common.{◌≡◌, ◌∙◌, None, Some, ap, get_or, length, refl, slice_get, sym, List, ℕ}
use Rattle.std.proofs.lemmas.Option.{slice_get_past, slice_get_read}
use Rattle.bib_read.specs.RawFields.{RawField, no_field}
use Rattle.bib_read.proofs.PackedFields.{name_at, no_name_at}
use Rattle.bib_read.proofs.packed_fields.PackedFields.name.Goals as goal

pub returns-in-Some : goal.returns-in-Some
returns-in-Some c =
    let numbers = c.as_slice.result.now in
    let here : slice_get c.self.inside.numbers.items c.args.at ≡ Some c.in-Some.number.now =
    sym (ap (λ (l : List ℕ). slice_get l c.args.at) c.as_slice.ensures.value)
    ∙ slice_get_read numbers (length numbers) c.args.at c.in-Some.number.now refl c.in-Some.ensures.lookup.3.0 c.in-Some.ensures.lookup.1 in
    c.text.ensures
    ∙ sym (name_at c.self.inside.names c.self.inside.numbers.items c.self.inside.values c.args.at c.in-Some.number.now c.self.invariant here)
    ∙ ap (λ (l : List RawField). (get_or l c.args.at no_field).name) c.self.view_is

pub returns-in-None : goal.returns-in-None
returns-in-None c =
    let none : slice_get c.self.inside.numbers.items c.args.at ≡ None =
    sym (ap (λ (l : List ℕ). slice_get l c.args.at) c.as_slice.ensures.value)
    ∙ slice_get_past c.as_slice.result.now c.args.at c.in-None.ensures.lookup.3 in
    sym (no_name_at c.self.inside.names c.self.inside.numbers.items c.self.inside.values c.args.at c.self.invariant none)
    ∙ ap (λ (l : List RawField). (get_or l c.args.at no_field).name) c.self.view_is
