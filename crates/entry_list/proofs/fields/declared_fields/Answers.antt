use Rattle.std.proofs.Common.{◌∙◌}
use Rattle.entry_list.proofs.Declaring.{declared_step, name_next}
use Rattle.entry_list.proofs.fields.declared_fields.Goals as goal

pub loop-i-preserved : goal.loop-i-preserved
loop-i-preserved c =
    let names = c.args.style.now.names in
    let i = c.loop-i.i in
    declared_step names i c.text.result.now c.kind.result _ _
    (name_next names i c.text.result.now c.kind.result c.text.ensures c.kind.ensures) c.in_ok-push_declared.ensures
    ∙ c.loop-i.invariant
