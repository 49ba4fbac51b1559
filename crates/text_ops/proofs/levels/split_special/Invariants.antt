use Rattle.std.proofs.Common.{◌≡◌, ◌++◌, ◌+◌, ◌≤◌, take, drop}
use Rattle.bv_base.specs.Levels as levels
use Rattle.text_ops.proofs.levels.split_special.Given as goal

abbrev pub invariant-loop-at : goal.invariant-loop-at
invariant-loop-at l = record {
  body : levels.inside 1 l.text ++ levels.closing 1 l.text ≡ take l.at l.text ++ (levels.inside l.level (drop l.at l.text) ++ levels.closing l.level (drop l.at l.text));
  level : l.level ≡ levels.level_after 1 (take l.at l.text);
  bound : l.level ≤ l.at + 1;
}
