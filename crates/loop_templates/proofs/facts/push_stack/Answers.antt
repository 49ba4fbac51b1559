-- The facts on one more symbol are added.
use Rattle.loop_templates.proofs.Recorded.{stack_more}
use Rattle.loop_templates.proofs.facts.push_stack.Goals as goal

pub loop-k-preserved : goal.loop-k-preserved
loop-k-preserved c =
    stack_more c.args.state.now _ c.loop-k.all.items c.push_facts_on.new.all.items c.args.stack.now c.loop-k.k _ _ c.loop-k-test.true
    c.requires.facts c.in_ok-push_facts_on.ensures c.loop-k.invariant
