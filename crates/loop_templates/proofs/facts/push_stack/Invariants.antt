-- The facts of the symbols so far, and of those that are left.
use Rattle.std.proofs.Common.{◌≡◌, ◌++◌, drop}
use Rattle.loop_templates.specs.Cases.{stack_facts}
use Rattle.loop_templates.proofs.facts.push_stack.Given as goal

abbrev pub invariant-loop-k : goal.invariant-loop-k
invariant-loop-k l = l.all.items ++ stack_facts l.state l.k (drop l.k l.stack) ≡ l.initial.all.items ++ stack_facts l.state 0 l.stack
