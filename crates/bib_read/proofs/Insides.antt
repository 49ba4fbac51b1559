-- The insides of braces and quotes, byte by byte.
use Rattle.std.proofs.Common.{◌≡◌, ℕ, suc, ◌+◌, ◌-◌, ◌<◌, Bool, true, false, ◌&&◌, ◌||◌, cond, nat_eq, List, ◌∷◌, refl, arith}
use Rattle.std.proofs.lemmas.Bool.Decides.{nat_tests}
use Rattle.bib_read.specs.Runs.{inside_length}

no_brace : (b : ℕ) → b < 123 → nat_eq b 123 ≡ false
no_brace b low = grind (arith, nat_tests)

no_end : (b : ℕ) → b < 123 → nat_eq b 125 ≡ false
no_end b low = grind (arith, nat_tests)

-- a byte below the braces that isn't the mark is inside, and opens and closes nothing
pub plain_passed : (mark level b : ℕ) (rest : List ℕ) → b < 123 → nat_eq b mark ≡ false
    → inside_length mark level (b ∷ rest) ≡ suc (inside_length mark level rest)
plain_passed mark level b rest low other =
    by (nat_eq level 0) (nat_eq b mark) (nat_eq b 123) (nat_eq b 125) other (no_brace b low) (no_end b low)
  where
    by : (z m o e : Bool) → m ≡ false → o ≡ false → e ≡ false
        → cond (z && (m || e)) 0 (suc (inside_length mark (cond o (level + 1) (cond e (level - 1) level)) rest))
        ≡ suc (inside_length mark level rest)
    by true false false false a b c = refl
    by false false false false a b c = refl
    by z true o e a b c = absurd cc
    by z false true e a b c = absurd cc
    by z false false true a b c = absurd cc
