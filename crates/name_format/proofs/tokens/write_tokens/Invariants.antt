use Rattle.std.proofs.Common.{◌≡◌, ◌≤◌, [], ◌∷◌, length, take, drop}
use Rattle.name_format.specs.Manners.{manner_of}
use Rattle.name_format.specs.Steps as steps
use Rattle.name_split.specs.Formatted as specs
use Rattle.name_format.proofs.tokens.write_tokens.Given as goal

abbrev pub invariant-loop-next : goal.invariant-loop-next
invariant-loop-next l = record {
  start : l.from ≡ length l.fn.out.items;
  within : l.from ≤ length l.out.items;
  kept : take l.from l.out.items ≡ l.fn.out.items;
  same : specs.tokens_written (manner_of l.manner) l.text (drop l.from l.out.items) (l.token ∷ steps.with_next l.next l.tokens)
      ≡ specs.tokens_written (manner_of l.manner) l.text [] (l.fn.first ∷ l.fn.tokens);
}

abbrev pub decreases-loop-next : goal.decreases-loop-next
decreases-loop-next l = length (steps.with_next l.next l.tokens)
