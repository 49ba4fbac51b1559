-- The fields so far stand behind the others.
use Rattle.std.proofs.Common.{◌∙◌, ◌++◌, ◌∷◌, [], List, ap, append_assoc, sym, take}
use Rattle.bib_read.specs.RawFields.{RawField}
use Rattle.bib_read.proofs.PackedFields.{without_more}
use Rattle.bib_read.proofs.Tables.{one_more}
use Rattle.bib_read.proofs.packed_entries.append_fields.Goals as goal

pub returns-in_err-push-clause-grown : goal.returns-in_err-push-clause-grown
returns-in_err-push-clause-grown c =
    without_more c.args.packed.now c.push.new.self (take c.loop-at.at c.args.fields.now)
    (c.in_err-push.ensures.err ∙ c.loop-at.invariant)

pub loop-at-preserved : goal.loop-at-preserved
loop-at-preserved c =
    let before = c.args.packed.now in
    let fields = c.args.fields.now in
    let at = c.loop-at.at in
    let field : RawField = c.in-Some.field in
    c.in_ok-push.ensures.ok
    ∙ ap (λ (f : RawField). c.loop-at.packed ++ f ∷ []) c.field.view_is
    ∙ ap (λ (l : List RawField). l ++ field ∷ []) c.loop-at.invariant
    ∙ append_assoc before (take at fields) (field ∷ [])
    ∙ ap (λ (l : List RawField). before ++ l) (sym (one_more fields at field (sym c.in-Some.ensures)))
