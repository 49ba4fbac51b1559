-- Keys and names, lowered by the library.
use Rattle.std.proofs.Common.{◌≡◌, ℕ, List, [], ◌∷◌, map, refl, ap, ◌∙◌, arith}
use Rattle.std.proofs.lemmas.Bool.Decides.{nat_tests}
use Rattle.std.specs.Char.{to_ascii_lowercase}
use Rattle.bv_base.specs.Bytes.{lower}

same_byte : (b : ℕ) → to_ascii_lowercase b ≡ lower b
same_byte b = grind (arith, nat_tests)

pub lowered_by_ascii : (bytes : List ℕ) → map to_ascii_lowercase bytes ≡ map lower bytes
lowered_by_ascii [] = refl
lowered_by_ascii (b ∷ bytes) =
    ap (λ c. c ∷ map to_ascii_lowercase bytes) (same_byte b) ∙ ap (λ cs. lower b ∷ cs) (lowered_by_ascii bytes)
