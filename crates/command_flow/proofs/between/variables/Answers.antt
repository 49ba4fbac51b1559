-- A name is looked at.
use Rattle.command_flow.specs.Between.{opening_of}
use Rattle.command_flow.proofs.Placing.{name_more}
use Rattle.command_flow.proofs.between.variables.Goals as goal

pub loop-id-preserved : goal.loop-id-preserved
loop-id-preserved c =
    name_more (opening_of c.args.owner) c.loop-id.id c.args.names.now c.kind.result c.loop-id.exact.vars.items _ c.loop-id.exact.facts.items _ c.loop-id.exact.next _
    c.kind.ensures c.in_ok-push_variable.ensures.vars c.in_ok-push_variable.ensures.facts c.in_ok-push_variable.ensures.next c.loop-id.invariant
