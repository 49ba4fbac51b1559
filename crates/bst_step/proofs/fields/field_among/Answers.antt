-- The field is the first of its name.
use Rattle.std.proofs.Common.{◌∙◌, ap, sym}
use Rattle.bst_meaning.specs.FieldValues.{FieldValue}
use Rattle.bst_meaning.specs.Machine.{field_value}
use Rattle.bst_step.proofs.FieldSteps.{among_found, among_next}
use Rattle.bst_step.proofs.fields.field_among.Goals as goal

pub returns-then-field-name : goal.returns-then-field-name
returns-then-field-name c =
    c.field_value.ensures
    ∙ ap (λ (f : FieldValue). field_value c.args.name f.value) c.field-in-loop-at.view_is
    ∙ among_found c.args.name c.args.entry.now.fields c.loop-at.at c.in-Some.field c.loop-at.invariant (sym c.in-Some.ensures)
    (ap (λ (f : FieldValue). f.name.0) (sym c.field-in-loop-at.view_is) ∙ c.if-field-name.true)

pub loop-at-preserved : goal.loop-at-preserved
loop-at-preserved c =
    among_next c.args.name c.args.entry.now.fields c.loop-at.at c.in-Some.field c.loop-at.invariant (sym c.in-Some.ensures)
    (λ same. c.if-field-name.false (ap (λ (f : FieldValue). f.name.0) c.field-in-loop-at.view_is ∙ same))
