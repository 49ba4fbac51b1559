-- The field at a place has the texts that stand there.
use Rattle.std.proofs.Common.{arith}
use Rattle.bib_read.proofs.FieldLists.{nameless, none_behind, read_field, valueless}
use Rattle.bib_read.proofs.raw_fields.RawFields.get.Goals as goal

pub returns-then-at-count : goal.returns-then-at-count
returns-then-at-count c =
    none_behind c.self.inside.texts c.len-count.result c.args.at c.args.self.now c.self.invariant c.len-count.ensures (omega (arith, c.if-at-count.true))
    c.self.view_is

pub returns-in_default : goal.returns-in_default
returns-in_default c = nameless c.self.inside.texts c.args.at c.args.self.now c.self.invariant c.self.view_is c.in_default.ensures

pub returns-in_default-at : goal.returns-in_default-at
returns-in_default-at c = valueless c.self.inside.texts c.args.at c.args.self.now c.self.invariant c.self.view_is c.in_default-at.ensures

pub returns : goal.returns
returns c =
    read_field c.self.inside.texts c.args.at c.args.self.now c.in-Some.name.now c.in-Some-at.value.now c.self.invariant c.self.view_is c.in-Some.ensures
    c.in-Some-at.ensures
