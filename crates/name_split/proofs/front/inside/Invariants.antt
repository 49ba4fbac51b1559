use Rattle.std.proofs.Common.{◌≡◌, ◌≤◌, ◌+◌, ◌++◌, take, drop}
use Rattle.bv_base.specs.Levels.{inside}
use Rattle.name_split.proofs.front.inside.Given as goal

abbrev pub invariant-loop-at : goal.invariant-loop-at
invariant-loop-at l = record {
  bound : l.level ≤ l.at + 1;
  same : take l.at l.bytes ++ inside l.level (drop l.at l.bytes) ≡ inside 1 l.bytes;
}
