-- The number of a block is that of one body.
use Rattle.std.proofs.Common.{◌≡◌, ℕ, zero, suc, ◌≤◌, List, [], ◌∷◌, Option, None, Some, map, slice_get, refl, ap, arith}
use Rattle.std.specs.Option.{option_map, option_map_or}
use Rattle.name_table.specs.declared.style.Body.{Body}
use Rattle.name_table.specs.Sound.{AreNumbered}

-- the number of the body at a place
abbrev number_at : List Body → ℕ → Option (Option ℕ)
number_at bodies at = option_map (λ (body : Body). body.block) (slice_get bodies at)

-- what an option of an option has
abbrev inner : Option (Option ℕ) → ℕ
inner o = option_map_or (λ (p : Option ℕ). option_map_or (λ (k : ℕ). k) p 0) o 0

-- the numbers after a block's are above its own
first_number : (n : ℕ) (o : Option ℕ) (rest : List (Option ℕ)) (number : ℕ) → AreNumbered n (o ∷ rest) → Some o ≡ Some (Some number)
    → (number ≡ n) × AreNumbered (suc n) rest
first_number n None rest number h e = absurd (cc)
first_number n (Some k) rest number h e =
    let same : k ≡ number = ap inner e in (omega (arith, same, h.0), h.1)

number_above : (n : ℕ) (bodies : List Body) (at number : ℕ) → AreNumbered n (map (λ (body : Body). body.block) bodies)
    → number_at bodies at ≡ Some (Some number) → n ≤ number
number_above n [] at number h e = absurd (cc)
number_above n (body ∷ bodies) zero number h e =
    let first = first_number n body.block (map (λ (b : Body). b.block) bodies) number h e in omega (arith, first.0)
number_above n (body ∷ bodies) (suc at) number h e = by body.block h (λ m k. number_above m bodies at number k e)
  where
    by : (o : Option ℕ) → AreNumbered n (o ∷ map (λ (b : Body). b.block) bodies)
        → ((m : ℕ) → AreNumbered m (map (λ (b : Body). b.block) bodies) → m ≤ number) → n ≤ number
    by None h more = more n h
    by (Some k) h more = let above = more (suc n) h.1 in omega (arith, above)

pub one_place : (n : ℕ) (bodies : List Body) (at to number : ℕ) → AreNumbered n (map (λ (body : Body). body.block) bodies)
    → number_at bodies at ≡ Some (Some number) → number_at bodies to ≡ Some (Some number) → at ≡ to
one_place n [] at to number h e f = absurd (cc)
one_place n (body ∷ bodies) zero zero number h e f = refl
one_place n (body ∷ bodies) zero (suc to) number h e f =
    let first = first_number n body.block (map (λ (b : Body). b.block) bodies) number h e in
    let above = number_above (suc n) bodies to number first.1 f in absurd (omega (arith, first.0, above))
one_place n (body ∷ bodies) (suc at) zero number h e f =
    let first = first_number n body.block (map (λ (b : Body). b.block) bodies) number h f in
    let above = number_above (suc n) bodies at number first.1 e in absurd (omega (arith, first.0, above))
one_place n (body ∷ bodies) (suc at) (suc to) number h e f = by body.block h (λ m k. one_place m bodies at to number k e f)
  where
    by : (o : Option ℕ) → AreNumbered n (o ∷ map (λ (b : Body). b.block) bodies)
        → ((m : ℕ) → AreNumbered m (map (λ (b : Body). b.block) bodies) → at ≡ to) → suc at ≡ suc to
    by None h more = ap suc (more n h)
    by (Some k) h more = ap suc (more (suc n) h.1)
