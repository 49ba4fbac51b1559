use Rattle.std.proofs.Common.{◌≡◌}
use Rattle.bst_run.specs.Under.{after_lines}
use Rattle.bst_run.proofs.under.line_of.Given as goal

-- so many lines are behind
abbrev pub invariant-loop : goal.invariant-loop
invariant-loop l = l.rest ≡ after_lines l.counter l.fn.text
