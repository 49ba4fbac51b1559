-- A use that is below the count keeps what the loop knows.
use Rattle.std.proofs.Common.{◌<◌, nat_lt, lt-ltb}
use Rattle.std.proofs.lemmas.List.Elements.{All-more}
use Rattle.lin_facts.proofs.Steps.{no_use, list_all-pass}
use Rattle.lin_facts.proofs.follows.are_there.Goals as goal

pub loop-u-preserved : goal.loop-u-preserved
loop-u-preserved c = record {
  value = list_all-pass (λ u. nat_lt u.row c.args.count) c.args.uses.now c.loop-u.u-index no_use c.loop-u-test.true (lt-ltb _ _ c.if-u-count.false) c.loop-u.invariant.value;
  there = All-more (λ u. u.row < c.args.count) c.args.uses.now c.loop-u.u-index no_use c.loop-u-test.true c.loop-u.invariant.there c.if-u-count.false;
}
