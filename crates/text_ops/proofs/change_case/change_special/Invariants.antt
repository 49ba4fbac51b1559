use Rattle.std.proofs.Common.{◌≡◌, ◌+◌, ◌++◌, ◌≤◌, length}
use Rattle.std.specs.List.{flat_map}
use Rattle.bv_base.specs.Levels.{inside, closing, beyond, special_parts}
use Rattle.text_ops.specs.ChangeCase.{changed_part, changed_special}
use Rattle.text_ops.proofs.change_case.change_special.Given as goal

abbrev pub invariant-loop-rest : goal.invariant-loop-rest
invariant-loop-rest l = record {
  items : l.out.items ++ (flat_map (changed_part l.mode) (special_parts (inside l.level l.rest)) ++ closing l.level l.rest) ≡ l.fn.out.items ++ changed_special l.mode l.text;
  later : beyond l.level l.rest ≡ beyond 1 l.text;
  bound : l.level + length l.rest ≤ length l.text + 1;
}

abbrev pub decreases-loop-rest : goal.decreases-loop-rest
decreases-loop-rest l = length l.rest
