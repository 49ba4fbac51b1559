use Rattle.std.proofs.Common.{◌≡◌, ◌≤◌, drop}
use Rattle.name_split.specs.Patterns.{balanced}
use Rattle.name_split.proofs.pattern.is_balanced.Given as goal

abbrev pub invariant-loop-b : goal.invariant-loop-b
invariant-loop-b l = record {
  low : l.level ≤ l.b-index;
  same : balanced l.level (drop l.b-index l.pattern) ≡ balanced 0 l.pattern;
}
