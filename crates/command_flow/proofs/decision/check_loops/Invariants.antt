use Rattle.std.proofs.Common.{◌≡◌, drop}
use Rattle.command_flow.specs.Checks as flow
use Rattle.command_flow.proofs.decision.check_loops.Given as goal

-- what comes of those that are left is what comes of all
abbrev pub invariant-loop-index : goal.invariant-loop-index
invariant-loop-index l =
    flow.loops_checked l.checker.style l.checker.cert (drop l.index l.checker.cert.loops) ≡ flow.loops_checked l.checker.style l.checker.cert l.checker.cert.loops
