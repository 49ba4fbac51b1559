-- The numbers of digits.
use Rattle.std.proofs.Common.{◌≡◌, ℕ, ◌+◌, ◌-◌, ◌*◌, List, [], ◌∷◌, min, arith}
use Rattle.bv_base.specs.Runs.{number_from}
use Rattle.bv_base.specs.declared.limits.TheConstants.{WIDEST_NUMBER}

-- digits after two numbers that are the same up to the greatest that is told
pub number_same : (m n : ℕ) (digits : List ℕ) → min WIDEST_NUMBER m ≡ min WIDEST_NUMBER n
    → min WIDEST_NUMBER (number_from m digits) ≡ min WIDEST_NUMBER (number_from n digits)
number_same m n [] h = h
number_same m n (d ∷ digits) h = number_same (10 * m + (d - 48)) (10 * n + (d - 48)) digits (omega arith)
