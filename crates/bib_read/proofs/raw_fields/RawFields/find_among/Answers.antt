-- The field is the first of its name.
use Rattle.std.proofs.Common.{◌≡◌, ◌∙◌, Some, add-one, ap, false, rules, subst, sym, take, true, ℕ}
use Rattle.name_table.specs.Names.{same_name}
use Rattle.bib_read.specs.Names.{text_of}
use Rattle.bib_read.specs.RawFields.{RawField}
use Rattle.bib_read.proofs.FieldLists.{found_here, named_as, not_named}
use Rattle.bib_read.proofs.raw_fields.RawFields.find_among.Goals as goal

pub returns-then-eq : goal.returns-then-eq
returns-then-eq c =
    let name = c.args.name.now in
    let fields = c.args.self.now in
    let field = c.in-Some-get.field in
    let same : same_name name c.in-Some.found.now ≡ true = search rules in
    let is : c.in-Some.found.now ≡ field.name =
    named_as fields c.loop-at.at c.in-Some.found.now field c.in-Some.ensures (sym c.in-Some-get.ensures) in
    ap (λ (f : RawField). Some f.value) c.field.view_is
    ∙ found_here name fields c.loop-at.at c.args.most field c.loop-at-test.true c.loop-at.invariant (sym c.in-Some-get.ensures)
    (subst (λ n. same_name name n ≡ true) is same)

pub loop-at-preserved : goal.loop-at-preserved
loop-at-preserved c =
    let other : same_name c.args.name.now c.in-Some.found.now ≡ false = search rules in
    ap (λ (n : ℕ). text_of c.args.name.now (take n c.args.self.now)) (add-one c.loop-at.at)
    ∙ not_named c.args.name.now c.args.self.now c.loop-at.at c.in-Some.found.now c.loop-at.invariant c.in-Some.ensures other
