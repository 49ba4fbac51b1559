use Rattle.std.proofs.Common.{◌≡◌, ◌++◌, take}
use Rattle.std.specs.List.{flat_map}
use Rattle.text_ops.specs.Purify.{purified_byte}
use Rattle.text_ops.proofs.purify.push_purified.Given as goal

abbrev pub invariant-loop-b : goal.invariant-loop-b
invariant-loop-b l = l.out.items ≡ l.fn.out.items ++ flat_map purified_byte (take l.b-index l.s)
