use Rattle.std.proofs.Common.{◌∙◌}
use Rattle.cert_format.specs.UnitSpelling.{command_lines}
use Rattle.cert_format.proofs.Texts.{each_step}
use Rattle.cert_format.proofs.put_units.put_commands.Goals as goal

pub loop-command-preserved : goal.loop-command-preserved
loop-command-preserved c =
    each_step (command_lines c.args.style.now) c.args.commands.now c.loop-command.command-index c.command-item.result c.loop-command.printer c.put_command.new.printer c.loop-command-test.true
    c.command-item.is c.in_ok-put_command.ensures
    ∙ c.loop-command.invariant
