use Rattle.std.proofs.Common.{◌≡◌, drop}
use Rattle.std.specs.List.{All}
use Rattle.sym_state.specs.Demands.{HasFewUses}
use Rattle.command_flow.specs.Commands as rule
use Rattle.command_flow.proofs.ends.call_ends.Given as goal

-- what is left with the hints that are left is all with all hints
abbrev pub invariant-loop-state : goal.invariant-loop-state
invariant-loop-state l = record {
  left : rule.call_ends l.at.cond.now l.at.command.place l.pieces (drop l.state-index l.states) l.hints ≡ rule.call_ends l.at.cond.now l.at.command.place l.pieces l.states l.fn.hints;
  proofs : All HasFewUses l.hints;
}
