use Rattle.std.proofs.Common.{◌≡◌, ◌++◌, take, drop, ℕ, Bool}
use Rattle.bv_base.specs.Levels.{run}
use Rattle.bv_base.proofs.levels.split_run.Given as goal

abbrev pub invariant-loop-count : goal.invariant-loop-count
invariant-loop-count g l =
    (passes : ℕ → Bool) → ((b : ℕ) (r : Bool) → goal.F-post g l.test b r → r ≡ passes b)
    → run passes l.text ≡ take l.count l.text ++ run passes (drop l.count l.text)
