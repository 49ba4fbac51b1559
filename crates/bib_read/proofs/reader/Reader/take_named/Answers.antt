use Rattle.std.proofs.Common.{◌∙◌, ap, sym, List, Ok}
use Rattle.bv_base.specs.Answers.{then_do}
use Rattle.bib_read.specs.Entering.{with_field}
use Rattle.bib_read.specs.Names.{has_field}
use Rattle.bib_read.specs.Progressing.{progress_of}
use Rattle.bib_read.specs.RawFields.{RawField}
use Rattle.bib_read.specs.Values.{take_equals}
use Rattle.bib_read.proofs.Kept.{fields_stay}
use Rattle.bib_read.proofs.reader.Reader.take_named.Goals as goal

pub returns : goal.returns
returns c =
    let name = c.args.name.now in
    ap (λ q. then_do (take_equals q) (λ r. Ok (with_field name r))) (sym c.in_ok-there.ensures.noted)
    ∙ ap (λ r. then_do r (λ q. Ok (with_field name q))) c.in_ok-take_equals.ensures
    ∙ ap Ok (sym c.in_ok-add_field.ensures)

-- the value that was read between leaves the fields as they were
pub add_field-requires : goal.add_field-requires
add_field-requires c =
    c.in_ok-there.ensures.there
    ∙ sym (ap (λ (fields : List RawField). has_field c.args.name.now fields)
    (fields_stay (progress_of c.note.new.self) (progress_of c.take_equals.new.self) c.in_ok-take_equals.ensures))
