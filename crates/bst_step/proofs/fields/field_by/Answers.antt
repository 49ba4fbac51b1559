-- The table has a place for the name or none, and there the field stands, another or none.
use Rattle.std.proofs.Common.{◌∙◌, ap, refl, sym, length}
use Rattle.std.proofs.lemmas.Option.{slice_get_past, slice_get_read}
use Rattle.bst_meaning.specs.FieldValues.{FieldValue}
use Rattle.bst_meaning.specs.Machine.{field_value}
use Rattle.bst_step.proofs.FieldSteps.{another_field, field_placeless, field_stands, no_field}
use Rattle.bst_step.proofs.fields.field_by.Goals as goal

pub returns-in_default : goal.returns-in_default
returns-in_default c =
    field_placeless c.args.places.now c.args.entry.now.fields c.args.name c.requires
    (slice_get_past c.args.places.now c.args.name.0 c.in_default.ensures.lookup.3)

pub returns-in_default-field : goal.returns-in_default-field
returns-in_default-field c =
    no_field c.args.places.now c.args.entry.now.fields c.args.name c.in-Some.at.now c.requires
    (slice_get_read c.args.places.now (length c.args.places.now) c.args.name.0 c.in-Some.at.now refl c.in-Some.ensures.lookup.3.0 c.in-Some.ensures.lookup.1)
    (sym c.in_default-field.ensures)

pub returns-then-field-name : goal.returns-then-field-name
returns-then-field-name c =
    c.field_value.ensures
    ∙ ap (λ (f : FieldValue). field_value c.args.name f.value) c.field-2.view_is
    ∙ field_stands c.args.places.now c.args.entry.now.fields c.args.name c.in-Some.at.now c.in-Some-field.field c.requires
    (sym c.in-Some-field.ensures) (ap (λ (f : FieldValue). f.name.0) (sym c.field-2.view_is) ∙ c.if-field-name.true)

pub returns-else-field-name : goal.returns-else-field-name
returns-else-field-name c =
    another_field c.args.places.now c.args.entry.now.fields c.args.name c.in-Some.at.now c.in-Some-field.field c.requires
    (slice_get_read c.args.places.now (length c.args.places.now) c.args.name.0 c.in-Some.at.now refl c.in-Some.ensures.lookup.3.0 c.in-Some.ensures.lookup.1)
    (sym c.in-Some-field.ensures) (λ same. c.if-field-name.false (ap (λ (f : FieldValue). f.name.0) c.field-2.view_is ∙ same))
