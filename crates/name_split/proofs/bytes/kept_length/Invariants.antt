use Rattle.std.proofs.Common.{◌≡◌, ◌+◌, ◌≤◌, drop, cond, nat_eq}
use Rattle.bv_base.specs.Bytes.{is_white}
use Rattle.name_split.specs.Spans.{kept}
use Rattle.name_split.proofs.bytes.kept_length.Given as goal

abbrev pub invariant-loop-i : goal.invariant-loop-i
invariant-loop-i l = record {
  within : l.kept ≤ l.i;
  last : cond (nat_eq (kept is_white (drop l.i l.bytes)) 0) l.kept (l.i + kept is_white (drop l.i l.bytes)) ≡ kept is_white l.bytes;
}
