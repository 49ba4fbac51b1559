-- Laws of products of integers.
use Rattle.std.proofs.Common.{◌≡◌, ℕ, ◌*◌, ap, ◌∙◌, arith}
use Rattle.std.specs.Prelude.{ℤ, pos, negsuc, ◌+ℤ◌, ◌*ℤ◌, ◌<ℤ◌, ◌≤ℤ◌, neg_ℤ}
use Rattle.std.proofs.Math.IntN.{*ℤ_comm}
use Rattle.std.proofs.lemmas.Int.{ints}
use borrow.Author.Differences.{up, down, same_in, product_is, sum_is_lem}

pub mul_add : (a b c : ℤ) → a *ℤ (b +ℤ c) ≡ a *ℤ b +ℤ a *ℤ c
mul_add a b c =
    let ups = ap (λ (k : ℕ). up a * k) (sum_is_lem b c) in
    let downs = ap (λ (k : ℕ). down a * k) (sum_is_lem b c) in
    same_in _ _ (omega (arith, product_is a (b +ℤ c), product_is a b, product_is a c, sum_is_lem (a *ℤ b) (a *ℤ c), ups, downs))

pub add_mul : (a b c : ℤ) → (a +ℤ b) *ℤ c ≡ a *ℤ c +ℤ b *ℤ c
add_mul a b c = *ℤ_comm (a +ℤ b) c ∙ mul_add c a b ∙ ap (λ x. x +ℤ c *ℤ b) (*ℤ_comm c a) ∙ ap (λ x. a *ℤ c +ℤ x) (*ℤ_comm c b)

pub mul_assoc : (a b c : ℤ) → (a *ℤ b) *ℤ c ≡ a *ℤ (b *ℤ c)
mul_assoc a b c =
    let ab = product_is a b in
    let bc = product_is b c in
    let by = λ (k : ℕ) (m n : ℕ) (e : m ≡ n). ap (λ x. x * k) e in
    let left = product_is (a *ℤ b) c in
    let right = product_is a (b *ℤ c) in
    same_in _ _ (omega (arith, left, right, by (up c) _ _ ab.0, by (down c) _ _ ab.1, by (up a) _ _ bc.0, by (down a) _ _ bc.1, by (down c) _ _ ab.0, by (up c) _ _ ab.1, by (down a) _ _ bc.0, by (up a) _ _ bc.1))

pub zero_mul : (a : ℤ) → pos 0 *ℤ a ≡ pos 0
zero_mul a = omega (arith, ints, product_is (pos 0) a)

pub mul_zero : (a : ℤ) → a *ℤ pos 0 ≡ pos 0
mul_zero a = *ℤ_comm a (pos 0) ∙ zero_mul a

pub minus_is : (a : ℤ) → negsuc 0 *ℤ a ≡ neg_ℤ a
minus_is a = omega (arith, ints, product_is (negsuc 0) a)

-- a natural times something that isn't negative
pub times_not_negative : (n : ℕ) (a : ℤ) → pos 0 ≤ℤ a → pos 0 ≤ℤ (pos n *ℤ a)
times_not_negative n (pos m) h = omega (arith, ints, product_is (pos n) (pos m))
times_not_negative n (negsuc m) h = absurd (omega (arith, ints))

-- where a product is greater than minus its first factor, the second isn't negative
pub not_below : (d : ℕ) (g : ℤ) → neg_ℤ (pos d) <ℤ (pos d *ℤ g) → pos 0 ≤ℤ g
not_below d (pos m) h = omega (arith, ints)
not_below d (negsuc m) h = absurd (omega (arith, ints, product_is (pos d) (negsuc m)))
