use Rattle.std.proofs.Common.{◌≡◌, ◌+◌, ◌≤◌, drop, false, ℕ}
use Rattle.name_split.specs.Names.{separators}
use Rattle.name_split.proofs.names.first_separator.Given as goal

abbrev pub invariant-loop-at : goal.invariant-loop-at
invariant-loop-at l = record {
  low : l.level ≤ l.at;
  same : (base : ℕ) → separators (base + l.at) l.level l.after_white (drop l.at l.text) ≡ separators base 0 false l.text;
}
