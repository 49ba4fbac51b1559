use Rattle.std.proofs.Common.{◌≡◌, ◌+◌, ◌≤◌, drop, false, length}
use Rattle.name_split.specs.Names.{separators}
use Rattle.name_split.proofs.names.separator_count.Given as goal

abbrev pub invariant-loop-at : goal.invariant-loop-at
invariant-loop-at l = record {
  low : l.level ≤ l.at;
  few : l.found ≤ l.at;
  same : l.found + length (separators l.at l.level l.after_white (drop l.at l.text)) ≡ length (separators 0 0 false l.text);
}
