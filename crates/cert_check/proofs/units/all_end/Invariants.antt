use Rattle.std.proofs.Common.{◌≡◌, drop}
use Rattle.std.specs.List.{All}
use Rattle.sym_state.specs.Demands.{HasFewUses}
use Rattle.cert_check.specs.Units as rule
use Rattle.cert_check.proofs.units.all_end.Given as goal

-- the states that are left entail what all of them do
abbrev pub invariant-loop-state : goal.invariant-loop-state
invariant-loop-state l = record {
  ends : rule.all_end l.cond l.kept l.pieces (drop l.state-index l.states) l.hints ≡ rule.all_end l.cond l.kept l.pieces l.states l.initial.hints;
  proofs : All HasFewUses l.hints;
}
