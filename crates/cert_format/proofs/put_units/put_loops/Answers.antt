use Rattle.std.proofs.Common.{◌∙◌}
use Rattle.cert_format.specs.UnitSpelling.{loop_lines}
use Rattle.cert_format.proofs.Texts.{each_step}
use Rattle.cert_format.proofs.put_units.put_loops.Goals as goal

pub loop-one-preserved : goal.loop-one-preserved
loop-one-preserved c =
    each_step (loop_lines c.args.style.now) c.args.loops.now c.loop-one.one-index c.one-item.result c.loop-one.printer c.put_loop.new.printer c.loop-one-test.true
    c.one-item.is c.in_ok-put_loop.ensures
    ∙ c.loop-one.invariant
