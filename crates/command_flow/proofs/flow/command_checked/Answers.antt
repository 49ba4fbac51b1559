-- Another command changes nothing.
use Rattle.command_flow.proofs.Flowing.{unchanged}
use Rattle.command_flow.proofs.flow.command_checked.Goals as goal

pub returns-in_default : goal.returns-in_default
returns-in_default c = record {
  decides = unchanged c.args.at.now.checker.now.style c.args.at.now.checker.now.cert c.args.at.now.command.command c.args.at.now.command.place c.args.parts c.args.between c.in_default.not-Execute
      c.in_default.not-Iterate c.in_default.not-Reverse;
  ready = c.requires.between;
}
