-- The hints of the states so far, and those of the states that are left.
use Rattle.std.proofs.Common.{◌≡◌, ◌++◌, drop}
use Rattle.command_flow.specs.Templates.{ends_hints}
use Rattle.command_flow.proofs.templates.with_ends.Given as goal

abbrev pub invariant-loop-state : goal.invariant-loop-state
invariant-loop-state l = l.hints.items ++ ends_hints l.at.cond.now l.pieces (drop l.state-index l.states) ≡ l.fn.found ++ ends_hints l.at.cond.now l.pieces l.states
