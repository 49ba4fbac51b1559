-- What is behind the bodies that are left is marked yet.
use Rattle.std.proofs.Common.{◌≡◌, drop}
use Rattle.loop_templates.specs.Reaching.{one_further}
use Rattle.loop_templates.proofs.reaching.mark_further.Given as goal

abbrev pub invariant-loop-k : goal.invariant-loop-k
invariant-loop-k l =
    one_further l.style l.types l.k (drop l.k l.style.bodies) l.marks.items ≡ one_further l.style l.types 0 l.style.bodies l.initial.marks.items
