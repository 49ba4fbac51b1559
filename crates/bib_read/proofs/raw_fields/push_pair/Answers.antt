-- A name and its value stand behind the others.
use Rattle.std.proofs.Common.{◌∙◌, ap, subst, sym}
use Rattle.bib_read.specs.RawFields.{ArePaired, fields_in}
use Rattle.bib_read.proofs.FieldLists.{field_pushed, pair_pushed, pushed_twice}
use Rattle.bib_read.proofs.raw_fields.push_pair.Goals as goal

pub returns-clause-paired : goal.returns-clause-paired
returns-clause-paired c =
    let texts = c.args.texts.now in
    let name = c.args.name.now in
    let value = c.args.value.now in
    subst ArePaired
    (sym (pushed_twice texts c.push.new.self c.push-2.new.self name value c.in-Ok.ensures.ok c.in-Ok-push.ensures.ok)) (pair_pushed texts name value c.requires)

pub returns-clause-pushed : goal.returns-clause-pushed
returns-clause-pushed c =
    let texts = c.args.texts.now in
    let name = c.args.name.now in
    let value = c.args.value.now in
    ap fields_in (pushed_twice texts c.push.new.self c.push-2.new.self name value c.in-Ok.ensures.ok c.in-Ok-push.ensures.ok)
    ∙ field_pushed texts name value c.requires
