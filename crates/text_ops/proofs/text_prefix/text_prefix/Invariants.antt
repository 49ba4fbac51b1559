use Rattle.std.proofs.Common.{◌≡◌, ◌++◌, replicate}
use Rattle.text_ops.proofs.text_prefix.text_prefix.Given as goal

abbrev pub invariant-loop : goal.invariant-loop
invariant-loop l = l.text.items ≡ l.initial.text.items ++ replicate l.counter 125
