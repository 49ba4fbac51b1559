use Rattle.std.proofs.Common.{◌≡◌, ◌≤◌, drop}
use Rattle.name_split.specs.Tokens.{low_from}
use Rattle.name_split.proofs.low.is_low.Given as goal

abbrev pub invariant-loop-at : goal.invariant-loop-at
invariant-loop-at l = record {
  bound : l.level ≤ l.at;
  same : low_from l.level (drop l.at l.token) ≡ low_from 0 l.token;
}
