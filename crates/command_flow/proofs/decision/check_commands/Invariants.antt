use Rattle.std.proofs.Common.{◌≡◌, ◌≤◌, ℕ, drop}
use Rattle.std.specs.List.{All}
use Rattle.cert_check.specs.Certified.{IsCommandOf}
use Rattle.command_flow.specs.Between as between
use Rattle.command_flow.specs.Checks as flow
use Rattle.command_flow.specs.Ready.{AreReady}
use Rattle.command_flow.specs.Records.{AreFrom, record_at}
use Rattle.command_flow.proofs.decision.check_commands.Given as goal

-- what comes of the commands that are left is what comes of all, and their records are among those that are left
abbrev pub invariant-loop-index : goal.invariant-loop-index
invariant-loop-index l = record {
  left : flow.commands_checked l.style l.cert l.index l.between (drop l.index l.style.commands)
      ≡ flow.commands_checked l.style l.cert 0 (between.opened l.style) l.style.commands;
  from : AreFrom l.index l.records;
  later : (k : ℕ) → l.index ≤ k → record_at k l.cert.commands ≡ record_at k l.records;
  fit : All (IsCommandOf l.style) l.records;
  ready : AreReady l.style l.between;
}
