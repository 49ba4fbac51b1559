-- The symbols so far.
use Rattle.std.proofs.Common.{◌≡◌, map}
use Rattle.std.specs.List.{range_with_len}
use Rattle.loop_templates.specs.Cases.{numbered}
use Rattle.loop_templates.proofs.cases.numbers.Given as goal

abbrev pub invariant-loop-k : goal.invariant-loop-k
invariant-loop-k l = l.stack.items ≡ map numbered (range_with_len 0 l.k)
