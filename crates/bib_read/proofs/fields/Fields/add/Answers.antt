-- The names of the fields behind the first few stay.
use Rattle.std.proofs.Common.{arith}
use Rattle.bib_read.specs.declared.fields.TheConstants.{FEW}
use Rattle.bib_read.proofs.FieldLists.{few_after}
use Rattle.bib_read.proofs.fields.Fields.add.Goals as goal

pub invariant_of-self : goal.invariant_of-self
invariant_of-self c =
    few_after FEW c.self.inside.fields c.push.new.self (record { name = c.args.name.now; value = c.args.value.now }) c.self.inside.more c.push.result
    (omega (arith, c.if-len-ge-FEW.false, c.len.ensures)) c.push.ensures.ok c.push.ensures.none c.self.invariant
