-- The blocks of a sound style by their numbers.
use Rattle.std.proofs.Common.{◌≡◌, ℕ, zero, suc, ◌+◌, true, false, cond, nat_eq, map, Option, Some, None, List, [], ◌∷◌, refl, ap, ◌∙◌, arith}
use Rattle.std.specs.Prelude.{slice_get, is_some}
use Rattle.std.proofs.lemmas.Bool.Decides.{nat_tests}
use Rattle.name_table.specs.Sound.{AreNumbered}
use Rattle.name_table.specs.declared.style.Body.{Body}
use Rattle.cert_format.specs.PieceItems.{blocks_from, body_from, is_block}

is_first : (n m : ℕ) → m ≡ n → nat_eq m (n + 0) ≡ true
is_first n m e = grind (arith, nat_tests)

is_later : (n m k : ℕ) → m ≡ n → nat_eq m (n + suc k) ≡ false
is_later n m k e = grind (arith, nat_tests)

block_case : (bodies : List Body) (id n : ℕ) (b : Option ℕ) (k : ℕ)
    → ((m j : ℕ) → AreNumbered m (map (λ body. body.block) bodies) → slice_get (blocks_from (suc id) bodies) j ≡ body_from (suc id) (m + j) bodies)
    → AreNumbered n (b ∷ map (λ body. body.block) bodies)
    → slice_get (cond (is_some b) (record { 0 = id } ∷ blocks_from (suc id) bodies) (blocks_from (suc id) bodies)) k
    ≡ cond (is_block (n + k) b) (Some (record { 0 = id })) (body_from (suc id) (n + k) bodies)
block_case bodies id n None k rest numbered = rest n k numbered
block_case bodies id n (Some m) zero rest numbered = rw (is_first n m numbered.0) refl
block_case bodies id n (Some m) (suc k) rest numbered =
    let place : suc n + k ≡ n + suc k = omega arith in
    rw (is_later n m k numbered.0) (rest (suc n) k numbered.1 ∙ ap (λ (i : ℕ). body_from (suc id) i bodies) place)

-- the block with the k-th number from n on is the k-th block
block_at : (bodies : List Body) (id n k : ℕ) → AreNumbered n (map (λ body. body.block) bodies)
    → slice_get (blocks_from id bodies) k ≡ body_from id (n + k) bodies
block_at [] id n k numbered = refl
block_at (body ∷ bodies) id n k numbered = block_case bodies id n body.block k (λ m j more. block_at bodies (suc id) m j more) numbered

-- the block of a number is the one at its place
pub block_of_number : (bodies : List Body) (k : ℕ) → AreNumbered 0 (map (λ body. body.block) bodies) → slice_get (blocks_from 0 bodies) k ≡ body_from 0 k bodies
block_of_number bodies k numbered =
    let place : 0 + k ≡ k = omega arith in
    block_at bodies 0 0 k numbered ∙ ap (λ (i : ℕ). body_from 0 i bodies) place
