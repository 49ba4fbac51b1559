-- The first record is taken where it is that of the number, and else none is.
use Rattle.command_flow.proofs.Records.{passed_from, passed_none, taken_from}
use Rattle.command_flow.proofs.decision.first_record.Goals as goal

pub returns-then-first-index-clause-from : goal.returns-then-first-index-clause-from
returns-then-first-index-clause-from c =
    taken_from c.args.index c.args.records.now c.in-Some.rest.now c.in-Some.first.now c.in-Some.ensures.cases.0 c.requires.from

pub returns-else-first-index-clause-record : goal.returns-else-first-index-clause-record
returns-else-first-index-clause-record c =
    passed_none c.args.index c.args.records.now c.in-Some.rest.now c.in-Some.first.now c.in-Some.ensures.cases.0 c.requires.from c.if-first-index.false

pub returns-else-first-index-clause-from : goal.returns-else-first-index-clause-from
returns-else-first-index-clause-from c =
    passed_from c.args.index c.args.records.now c.in-Some.rest.now c.in-Some.first.now c.in-Some.ensures.cases.0 c.requires.from c.if-first-index.false
