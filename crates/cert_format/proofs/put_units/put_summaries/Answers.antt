use Rattle.std.proofs.Common.{◌∙◌}
use Rattle.cert_format.specs.UnitSpelling.{summary_lines}
use Rattle.cert_format.proofs.Texts.{each_step}
use Rattle.cert_format.proofs.put_units.put_summaries.Goals as goal

pub loop-summary-preserved : goal.loop-summary-preserved
loop-summary-preserved c =
    each_step (summary_lines c.args.style.now) c.args.summaries.now c.loop-summary.summary-index c.summary-item.result c.loop-summary.printer c.put_summary.new.printer c.loop-summary-test.true
    c.summary-item.is c.in_ok-put_summary.ensures
    ∙ c.loop-summary.invariant
