-- What is behind the steps that are left is what is behind all.
use Rattle.std.proofs.Common.{◌≡◌, ℕ, ◌+◌, length}
use Rattle.loop_templates.specs.Reaching.{further}
use Rattle.loop_templates.proofs.reaching.further.Given as goal

abbrev pub invariant-loop : goal.invariant-loop
invariant-loop l = (left : ℕ) → left + l.counter ≡ length l.style.bodies
    → further l.style l.types left l.marks.items ≡ further l.style l.types (length l.style.bodies) l.fn.from.items
