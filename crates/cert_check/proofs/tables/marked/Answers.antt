use Rattle.cert_check.specs.Tables.{block_of_id, name_of_id}
use Rattle.cert_check.proofs.TableSteps.{block_next, block_passed, name_next, name_passed, none_marked}
use Rattle.cert_check.proofs.tables.marked.Goals as goal

pub loop-k-init : goal.loop-k-init
loop-k-init c = record {
  named = none_marked name_of_id c.in_ok-named.named.items c.args.summaries.now c.in_ok-named.ensures;
  blocks = none_marked block_of_id c.in_ok-blocks.blocks.items c.args.summaries.now c.in_ok-blocks.ensures;
}

pub loop-k-preserved-in-Named : goal.loop-k-preserved-in-Named
loop-k-preserved-in-Named c = record {
  named = name_next c.loop-k.named.items c.put.new.table.items c.args.summaries.now c.loop-k.k _ c.in-Named.name c.loop-k-test.true c.loop-k.auto.k c.in-Named.is c.put.ensures
      c.loop-k.invariant.named;
  blocks = name_passed c.loop-k.blocks.items c.args.summaries.now c.loop-k.k _ c.in-Named.name c.loop-k-test.true c.loop-k.auto.k c.in-Named.is c.loop-k.invariant.blocks;
}

pub loop-k-preserved : goal.loop-k-preserved
loop-k-preserved c = record {
  named = block_passed c.loop-k.named.items c.args.summaries.now c.loop-k.k _ c.in-Block.body c.loop-k-test.true c.loop-k.auto.k c.in-Block.is c.loop-k.invariant.named;
  blocks = block_next c.loop-k.blocks.items c.put-in-Block.new.table.items c.args.summaries.now c.loop-k.k _ c.in-Block.body c.loop-k-test.true c.loop-k.auto.k c.in-Block.is c.put-in-Block.ensures
      c.loop-k.invariant.blocks;
}
