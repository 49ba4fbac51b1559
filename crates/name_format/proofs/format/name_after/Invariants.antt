use Rattle.std.proofs.Common.{◌≡◌, length, slice_get}
use Rattle.name_split.specs.Names.{names_of}
use Rattle.name_format.proofs.format.name_after.Given as goal

abbrev pub invariant-loop-name : goal.invariant-loop-name
invariant-loop-name l = record {
  text : l.list.text ≡ l.text;
  same : slice_get l.list.left l.left ≡ slice_get (names_of l.text) l.count;
}

abbrev pub decreases-loop-name : goal.decreases-loop-name
decreases-loop-name l = length l.list.left
