use Rattle.std.proofs.Common.{◌≡◌, drop}
use Rattle.std.specs.List.{All}
use Rattle.sym_state.specs.Demands.{HasFewUses}
use Rattle.command_flow.specs.Commands as rule
use Rattle.command_flow.proofs.ends.state_ends.Given as goal

-- what is left with the hints that are left is all with all hints
abbrev pub invariant-loop-piece : goal.invariant-loop-piece
invariant-loop-piece l = record {
  left : rule.pieces_shown l.at.cond.now l.at.command.place l.state (drop l.piece-index l.pieces) l.hints ≡ rule.state_ends l.at.cond.now l.at.command.place l.pieces l.state l.fn.hints;
  proofs : All HasFewUses l.hints;
}
