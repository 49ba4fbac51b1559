-- The field is the first of its name.
use Rattle.std.proofs.Common.{◌≡◌, ◌∙◌, Some, add-one, ap, arith, false, length, rules, sym, take, true, ℕ}
use Rattle.name_table.specs.Names.{same_name}
use Rattle.bib_read.specs.Names.{text_of}
use Rattle.bib_read.specs.RawFields.{RawField}
use Rattle.bib_read.proofs.FieldLists.{all_first, found_here, not_yet}
use Rattle.bib_read.proofs.raw_entry.RawEntry.find.Goals as goal

pub returns-then-eq : goal.returns-then-eq
returns-then-eq c =
    let name = c.args.name.now in
    let fields = c.args.self.now.fields in
    let field : RawField = c.in-Some.field in
    let same : same_name name c.field-in-loop-at.inside.name.now ≡ true = search rules in
    ap (λ (f : RawField). Some f.value) c.field-in-loop-at.view_is
    ∙ found_here name fields c.loop-at.at (length fields) field (omega (arith, c.loop-at-test.true, c.len-at-end.ensures)) c.loop-at.invariant
    (sym c.in-Some.ensures) (ap (λ (f : RawField). same_name name f.name) (sym c.field-in-loop-at.view_is) ∙ same)
    ∙ all_first name fields

pub loop-at-preserved : goal.loop-at-preserved
loop-at-preserved c =
    let name = c.args.name.now in
    let fields = c.args.self.now.fields in
    let other : same_name name c.field-in-loop-at.inside.name.now ≡ false = search rules in
    ap (λ (n : ℕ). text_of name (take n fields)) (add-one c.loop-at.at)
    ∙ not_yet name fields c.loop-at.at c.in-Some.field c.loop-at.invariant (sym c.in-Some.ensures)
    (ap (λ (f : RawField). same_name name f.name) (sym c.field-in-loop-at.view_is) ∙ other)
