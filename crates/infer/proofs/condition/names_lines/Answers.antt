-- A name more.
use Rattle.infer.proofs.Conditions.{next_line}
use Rattle.infer.proofs.condition.names_lines.Goals as goal

pub loop-id-preserved : goal.loop-id-preserved
loop-id-preserved c =
    next_line c.loop-id.id c.args.names.now c.text.result.now c.kind.result c.loop-id.lines.items _ c.text.ensures c.kind.ensures c.in_ok-push_line.ensures c.loop-id.invariant
