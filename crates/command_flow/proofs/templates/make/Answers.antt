-- The opening pieces are those of the machine over no entries.
use Rattle.command_flow.proofs.Opened.{opens_ready}
use Rattle.command_flow.proofs.templates.make.Goals as goal

pub commands_made-requires-clause-opened : goal.commands_made-requires-clause-opened
commands_made-requires-clause-opened g c =
    opens_ready c.args.style.now c.requires.sound (λ list fits. c.runs_are_well_formed.ensures.opening c.args.style.now list c.requires.sound fits)
