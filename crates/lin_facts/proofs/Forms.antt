-- Sums of parts: they depend on the coefficients of their terms alone.
use Rattle.std.proofs.Common.{◌≡◌, ℕ, ◌≤◌, zero, suc, Bool, true, false, cond, List, [], ◌∷◌, ◌++◌, length, ap, sym, ◌∙◌, refl, arith}
use Rattle.std.specs.Prelude.{ℤ, pos, ◌+ℤ◌, ◌*ℤ◌}
use Rattle.std.proofs.lemmas.Int.{ints}
use Rattle.std.proofs.lemmas.Bool.{eqb-true, eq-eqb}
use Rattle.lin_facts.specs.Rows.{same_term, coefficient_of, sum_of, Assignment}
use Rattle.lin_facts.specs.declared.row.Term.{Term}
use Rattle.lin_facts.specs.declared.row.Term.TheVariants.{Value, Length, Names, Pos, Count}
use Rattle.lin_facts.specs.declared.row.Part.{Part}
use Rattle.lin_facts.proofs.Integers.{mul_add, add_mul, mul_assoc, mul_zero, zero_mul}

pub same_is : (s t : Term) → same_term s t ≡ true → s ≡ t
same_is (Value m) (Value n) e = ap Value (eqb-true m n e)
same_is (Length m) (Length n) e = ap Length (eqb-true m n e)
same_is (Names m) (Names n) e = ap Names (eqb-true m n e)
same_is Pos Pos e = refl
same_is Count Count e = refl
same_is _ _ e = cc

pub same_itself : (t : Term) → same_term t t ≡ true
same_itself (Value n) = eq-eqb n n refl
same_itself (Length n) = eq-eqb n n refl
same_itself (Names n) = eq-eqb n n refl
same_itself Pos = refl
same_itself Count = refl

-- each coefficient times a number
abbrev pub scaled : ℤ → List Part → List Part
scaled k [] = []
scaled k (part ∷ parts) = record { coefficient = k *ℤ part.coefficient; term = part.term } ∷ scaled k parts

chosen : (b : Bool) (k x : ℤ) → cond b (k *ℤ x) (pos 0) ≡ k *ℤ cond b x (pos 0)
chosen true k x = refl
chosen false k x = sym (mul_zero k)

pub coefficient_scaled : (k : ℤ) (parts : List Part) (t : Term) → coefficient_of (scaled k parts) t ≡ k *ℤ coefficient_of parts t
coefficient_scaled k [] t = sym (mul_zero k)
coefficient_scaled k (part ∷ parts) t =
    ap (λ x. x +ℤ coefficient_of (scaled k parts) t) (chosen (same_term part.term t) k part.coefficient)
    ∙ ap (λ x. k *ℤ cond (same_term part.term t) part.coefficient (pos 0) +ℤ x) (coefficient_scaled k parts t)
    ∙ sym (mul_add k _ _)

pub sum_scaled : (a : Assignment) (k : ℤ) (parts : List Part) → sum_of a (scaled k parts) ≡ k *ℤ sum_of a parts
sum_scaled a k [] = sym (mul_zero k)
sum_scaled a k (part ∷ parts) =
    ap (λ x. x +ℤ sum_of a (scaled k parts)) (mul_assoc k part.coefficient (a part.term))
    ∙ ap (λ x. k *ℤ (part.coefficient *ℤ a part.term) +ℤ x) (sum_scaled a k parts)
    ∙ sym (mul_add k _ _)

pub coefficient_append : (xs ys : List Part) (t : Term) → coefficient_of (xs ++ ys) t ≡ coefficient_of xs t +ℤ coefficient_of ys t
coefficient_append [] ys t = omega (arith, ints)
coefficient_append (x ∷ xs) ys t = omega (arith, ints, coefficient_append xs ys t)

pub sum_append : (a : Assignment) (xs ys : List Part) → sum_of a (xs ++ ys) ≡ sum_of a xs +ℤ sum_of a ys
sum_append a [] ys = omega (arith, ints)
sum_append a (x ∷ xs) ys = omega (arith, ints, sum_append a xs ys)

-- the parts of other terms
abbrev pub without : Term → List Part → List Part
without t [] = []
without t (part ∷ parts) = cond (same_term part.term t) (without t parts) (part ∷ without t parts)

length_without : (t : Term) (parts : List Part) → length (without t parts) ≤ length parts
length_without t [] = omega arith
length_without t (part ∷ parts) =
    elim (same_term part.term t) as (λ b. length (cond b (without t parts) (part ∷ without t parts)) ≤ suc (length parts)) [
      | true ↦ omega (arith, length_without t parts)
      | false ↦ omega (arith, length_without t parts)
    ]

-- a sum is that of one term and that of the others
sum_split : (a : Assignment) (t : Term) (parts : List Part) → sum_of a parts ≡ coefficient_of parts t *ℤ a t +ℤ sum_of a (without t parts)
sum_split a t [] = omega (arith, ints, zero_mul (a t))
sum_split a t (part ∷ parts) =
    let rest = sum_split a t parts in
    elim (same_term part.term t) as (λ b. same_term part.term t ≡ b → part.coefficient *ℤ a part.term +ℤ sum_of a parts ≡ (cond b part.coefficient (pos 0) +ℤ coefficient_of parts t) *ℤ a t +ℤ sum_of a (cond b (without t parts) (part ∷ without t parts))) [
      | true ↦ λ e.
          let here : part.coefficient *ℤ a part.term ≡ part.coefficient *ℤ a t = ap (λ s. part.coefficient *ℤ a s) (same_is part.term t e) in
          omega (arith, ints, here, rest, add_mul part.coefficient (coefficient_of parts t) (a t))
      | false ↦ λ e.
          omega (arith, ints, rest, zero_mul (a t), add_mul (pos 0) (coefficient_of parts t) (a t))
    ] refl

-- a part of the term that is left out, and one that is kept
left_out : (part : Part) (t s : Term) (x : ℤ) → same_term part.term t ≡ true → cond (same_term t s) (pos 0) x ≡ cond (same_term t s) (pos 0) (cond (same_term part.term s) part.coefficient (pos 0) +ℤ x)
left_out part t s x e =
    elim (same_term t s) as (λ b. same_term t s ≡ b → cond b (pos 0) x ≡ cond b (pos 0) (cond (same_term part.term s) part.coefficient (pos 0) +ℤ x)) [
      | true ↦ λ same. refl
      | false ↦ λ same.
          let other : same_term part.term s ≡ false = ap (λ u. same_term u s) (same_is part.term t e) ∙ same in
          omega (arith, ints, ap (λ b. cond b part.coefficient (pos 0)) other)
    ] refl

kept : (part : Part) (t s : Term) (x : ℤ) → same_term part.term t ≡ false → cond (same_term part.term s) part.coefficient (pos 0) +ℤ cond (same_term t s) (pos 0) x ≡ cond (same_term t s) (pos 0) (cond (same_term part.term s) part.coefficient (pos 0) +ℤ x)
kept part t s x e =
    elim (same_term t s) as (λ b. same_term t s ≡ b → cond (same_term part.term s) part.coefficient (pos 0) +ℤ cond b (pos 0) x ≡ cond b (pos 0) (cond (same_term part.term s) part.coefficient (pos 0) +ℤ x)) [
      | true ↦ λ same.
          let other : same_term part.term s ≡ false = ap (same_term part.term) (sym (same_is t s same)) ∙ e in
          omega (arith, ints, ap (λ b. cond b part.coefficient (pos 0)) other)
      | false ↦ λ same. refl
    ] refl

coefficient_without : (t s : Term) (parts : List Part) → coefficient_of (without t parts) s ≡ cond (same_term t s) (pos 0) (coefficient_of parts s)
coefficient_without t s [] = elim (same_term t s) as (λ b. pos 0 ≡ cond b (pos 0) (pos 0)) [ true ↦ refl | false ↦ refl ]
coefficient_without t s (part ∷ parts) =
    let rest = coefficient_without t s parts in
    elim (same_term part.term t) as (λ b. same_term part.term t ≡ b → coefficient_of (cond b (without t parts) (part ∷ without t parts)) s ≡ cond (same_term t s) (pos 0) (cond (same_term part.term s) part.coefficient (pos 0) +ℤ coefficient_of parts s)) [
      | true ↦ λ e. rest ∙ left_out part t s (coefficient_of parts s) e
      | false ↦ λ e. ap (λ x. cond (same_term part.term s) part.coefficient (pos 0) +ℤ x) rest ∙ kept part t s (coefficient_of parts s) e
    ] refl

zero_either : (b : Bool) (x : ℤ) → x ≡ pos 0 → cond b (pos 0) x ≡ pos 0
zero_either true x e = refl
zero_either false x e = e

zero_within : (a : Assignment) (n : ℕ) (parts : List Part) → length parts ≤ n → ((t : Term) → coefficient_of parts t ≡ pos 0) → sum_of a parts ≡ pos 0
zero_within a zero [] h zeros = refl
zero_within a zero (part ∷ parts) h zeros = absurd (omega arith)
zero_within a (suc n) [] h zeros = refl
zero_within a (suc n) (part ∷ parts) h zeros =
    let t = part.term in
    let whole = part ∷ parts in
    let dropped : without t whole ≡ without t parts = ap (λ b. cond b (without t parts) (part ∷ without t parts)) (same_itself t) in
    let rest : sum_of a (without t parts) ≡ pos 0 =
    zero_within a n (without t parts) (omega (arith, length_without t parts))
    (λ s. ap (λ ps. coefficient_of ps s) (sym dropped) ∙ coefficient_without t s whole ∙ zero_either (same_term t s) _ (zeros s)) in
    sum_split a t whole
    ∙ ap (λ x. x *ℤ a t +ℤ sum_of a (without t whole)) (zeros t)
    ∙ omega (arith, ints, zero_mul (a t), ap (sum_of a) dropped, rest)

-- parts whose coefficients are all 0 add up to 0
pub zero_sum : (a : Assignment) (parts : List Part) → ((t : Term) → coefficient_of parts t ≡ pos 0) → sum_of a parts ≡ pos 0
zero_sum a parts zeros = zero_within a (length parts) parts (omega arith) zeros
