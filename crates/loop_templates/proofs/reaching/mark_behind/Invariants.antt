-- What is behind the tokens that are left is marked yet.
use Rattle.std.proofs.Common.{◌≡◌, drop}
use Rattle.loop_templates.specs.Reaching.{with_behind}
use Rattle.loop_templates.proofs.reaching.mark_behind.Given as goal

abbrev pub invariant-loop-at : goal.invariant-loop-at
invariant-loop-at l =
    with_behind l.style l.types (drop l.at-index l.tokens) l.marks.items ≡ with_behind l.style l.types l.tokens l.initial.marks.items
