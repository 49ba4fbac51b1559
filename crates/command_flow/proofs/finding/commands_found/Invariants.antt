use Rattle.std.proofs.Common.{◌≡◌, drop}
use Rattle.command_flow.specs.Finding as rule
use Rattle.command_flow.specs.Ready.{AreReady}
use Rattle.command_flow.proofs.CommandsFound.{AreBefore}
use Rattle.command_flow.proofs.finding.commands_found.Given as goal

-- what comes of the commands that are left behind the records so far is what comes of all
abbrev pub invariant-loop-index : goal.invariant-loop-index
invariant-loop-index l = record {
  left : rule.commands_found l.finding l.checker.style l.checker.cert l.index l.between l.parts.items (drop l.index l.checker.style.commands)
      ≡ rule.records_found l.finding l.checker.style l.checker.cert;
  records : AreBefore l.style l.index l.parts.items;
  ready : AreReady l.style l.between;
}
