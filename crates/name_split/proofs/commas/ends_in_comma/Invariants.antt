use Rattle.std.proofs.Common.{◌≡◌, ◌≤◌, cond, drop}
use Rattle.std.specs.List.{list_all}
use Rattle.name_split.specs.Parts.{ends_in_comma}
use Rattle.name_split.specs.Tokens.{is_joint}
use Rattle.name_split.proofs.commas.ends_in_comma.Given as goal

abbrev pub invariant-loop-b : goal.invariant-loop-b
invariant-loop-b l = record {
  low : l.level ≤ l.b-index;
  same : cond (list_all is_joint (drop l.b-index l.name)) l.ends (ends_in_comma l.level (drop l.b-index l.name)) ≡ ends_in_comma 0 l.name;
}
