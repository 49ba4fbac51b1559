use Rattle.std.proofs.Common.{◌≡◌, ◌≤◌, length}
use Rattle.bst_meaning.specs.Lines as rule
use Rattle.bst_step.proofs.lines.after_white.Given as goal

-- what is left comes to what the whole comes to
abbrev pub invariant-loop-rest : goal.invariant-loop-rest
invariant-loop-rest l = record {
  rest : rule.after_white l.rest ≡ rule.after_white l.bytes;
  within : length l.rest ≤ length l.bytes;
}

abbrev pub decreases-loop-rest : goal.decreases-loop-rest
decreases-loop-rest l = length l.rest
