-- The loop is here.
use Rattle.std.proofs.Common.{◌∙◌, ◌+◌, drop, sym}
use Rattle.cert_check.specs.Walks.{numbered}
use Rattle.cert_check.proofs.WhileSteps.{got_at, is_here, next_at}
use Rattle.cert_check.proofs.whiles.place_among.Goals as goal

pub returns-then-is_loop_of-clause-found : goal.returns-then-is_loop_of-clause-found
returns-then-is_loop_of-clause-found c = λ first.
    let made = c.args.made.now in
    let k = c.loop-k.k in
    let found = c.index-made-k.result in
    is_here c.args.one.now first k made (drop k made) (drop (k + 1) made) found (numbered c.args.one.now first made)
    (next_at made k found c.loop-k-test.true c.index-made-k.is) (got_at made k found c.loop-k-test.true c.index-made-k.is)
    (sym c.is_loop_of.ensures ∙ c.if-is_loop_of.true) (c.loop-k.invariant first)
