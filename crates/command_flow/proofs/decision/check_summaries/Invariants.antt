use Rattle.std.proofs.Common.{◌≡◌, drop}
use Rattle.command_flow.specs.Checks as flow
use Rattle.command_flow.proofs.decision.check_summaries.Given as goal

-- what comes of those that are left is what comes of all
abbrev pub invariant-loop-index : goal.invariant-loop-index
invariant-loop-index l =
    flow.summaries_checked l.checker.style l.checker.cert (drop l.index l.checker.cert.summaries) ≡ flow.summaries_checked l.checker.style l.checker.cert l.checker.cert.summaries
