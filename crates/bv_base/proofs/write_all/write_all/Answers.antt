-- The piece that was taken follows the bytes taken before.
use Rattle.std.proofs.Common.{arith, rules}
use Rattle.bv_base.proofs.Appended.{appended_more}
use Rattle.bv_base.proofs.write_all.write_all.Goals as goal

pub loop-done-preserved : goal.loop-done-preserved
loop-done-preserved g c =
    let more = appended_more (g.S.Sink.written c.args.sink.now) c.args.text.now c.loop-done.done c.in_ok-count.count in
    record {
      within = omega (arith, c.in_ok-count.ensures.within);
      taken = rw (c.in_ok-count.ensures.taken, c.loop-done.invariant.taken, c.split_at.ensures.back) more;
      steady = search rules;
    }
