use Rattle.std.proofs.Common.{◌≡◌, ◌≤◌, ◌+◌, drop, ℕ, Bool}
use Rattle.name_split.specs.Spans.{leveled_before}
use Rattle.name_split.proofs.bytes.leveled_before.Given as goal

abbrev pub invariant-loop-i : goal.invariant-loop-i
invariant-loop-i g l = record {
  low : l.level ≤ l.i + 1;
  same : (passes : ℕ → ℕ → Bool) → ((level b : ℕ) (r : Bool) → goal.F-post g l.test level b r → r ≡ passes level b)
      → l.i + leveled_before passes l.level (drop l.i l.bytes) ≡ leveled_before passes l.fn.first l.bytes;
}
