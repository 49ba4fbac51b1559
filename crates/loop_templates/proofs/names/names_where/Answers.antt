-- A name is added where it is wanted.
use Rattle.loop_templates.proofs.Ids.{id_more}
use Rattle.loop_templates.proofs.names.names_where.Goals as goal

pub loop-id-preserved : goal.loop-id-preserved
loop-id-preserved g c passes pure =
    id_more passes c.loop-id.names.items c.push_where.new.names.items _ c.loop-id.id c.args.style.now.names c.kind.result c.test-wanted.result
    c.kind.ensures (pure c.kind.result c.test-wanted.result c.test-wanted.ensures) c.in_ok-push_where.ensures (c.loop-id.invariant passes pure)
