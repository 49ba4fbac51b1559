use Rattle.std.proofs.Common.{◌≡◌, ◌≤◌, drop}
use Rattle.std.specs.List.{list_all}
use Rattle.name_split.specs.Patterns.{group_ok, groups}
use Rattle.name_split.proofs.pattern.groups_ok.Given as goal

abbrev pub invariant-loop-at : goal.invariant-loop-at
invariant-loop-at l = record {
  low : l.level ≤ l.at;
  same : list_all group_ok (groups l.level (drop l.at l.pattern)) ≡ list_all group_ok (groups 0 l.pattern);
}
