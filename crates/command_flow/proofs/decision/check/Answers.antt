-- The opening pieces are those of the machine over no entries.
use Rattle.command_flow.proofs.Opened.{opens_ready}
use Rattle.command_flow.proofs.decision.check.Goals as goal

pub check_commands-requires-clause-opened : goal.check_commands-requires-clause-opened
check_commands-requires-clause-opened c =
    opens_ready c.args.style.now c.requires.sound (λ list fits. c.runs_are_well_formed.ensures.opening c.args.style.now list c.requires.sound fits)
