-- The name at a place is the text that stands there.
use Rattle.std.proofs.Common.{arith, option_map}
use Rattle.bib_read.proofs.FieldLists.{name_read, no_name_behind}
use Rattle.bib_read.proofs.raw_fields.RawFields.name.Goals as goal

pub returns-then-at-len : goal.returns-then-at-len
returns-then-at-len c =
    no_name_behind c.self.inside.texts c.len.result c.args.at c.args.self.now c.self.invariant c.len.ensures (omega (arith, c.if-at-len.true)) c.self.view_is

pub returns : goal.returns
returns c =
    name_read c.self.inside.texts c.args.at c.args.self.now (option_map (λ name. name.now) c.at.result) c.self.invariant c.self.view_is c.at.ensures
