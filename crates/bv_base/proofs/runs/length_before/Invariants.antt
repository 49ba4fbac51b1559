use Rattle.std.proofs.Common.{◌≡◌, ◌+◌, drop, ℕ, Bool}
use Rattle.bv_base.specs.Runs.{length_before}
use Rattle.bv_base.proofs.runs.length_before.Given as goal

abbrev pub invariant-loop-i : goal.invariant-loop-i
invariant-loop-i g l =
    (ends : ℕ → Bool) → ((b : ℕ) (r : Bool) → goal.F-post g l.test b r → r ≡ ends b)
    → l.i + length_before ends (drop l.i l.bytes) ≡ length_before ends l.bytes
