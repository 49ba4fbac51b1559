use Rattle.std.proofs.Common.{◌≡◌, length}
use Rattle.name_split.specs.AllParts.{all_have_parts}
use Rattle.name_split.proofs.names.names_ok.Given as goal

abbrev pub invariant-loop-name : goal.invariant-loop-name
invariant-loop-name l = record {
  text : l.list.text ≡ l.text;
  same : all_have_parts l.text l.list.left ≡ all_have_parts l.text l.initial.list.left;
}

abbrev pub decreases-loop-name : goal.decreases-loop-name
decreases-loop-name l = length l.list.left
