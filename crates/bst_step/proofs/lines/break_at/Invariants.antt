use Rattle.std.proofs.Common.{◌≡◌, ◌≤◌, None, drop, length}
use Rattle.std.specs.Option.{IfSome}
use Rattle.bst_meaning.specs.Lines as rule
use Rattle.bst_step.proofs.lines.break_at.Given as goal

-- the best place so far with what is left comes to the place of the whole
abbrev pub invariant-loop-at : goal.invariant-loop-at
invariant-loop-at l = record {
  place : rule.break_among l.best (rule.white_places l.at (drop l.at l.buffer)) ≡ rule.break_among None (rule.white_places 0 l.buffer);
  within : IfSome l.best (λ at. (3 ≤ at) × (at ≤ length l.buffer) × (at ≤ l.at));
}
