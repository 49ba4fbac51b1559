-- What rows say, and when the sum of two or three terms is a row that holds.
use Rattle.std.proofs.Common.{◌≡◌, Bool, true, false, cond, List, [], ◌∷◌, refl, ap, ◌∙◌, arith}
use Rattle.std.specs.Prelude.{ℤ, pos, ◌+ℤ◌, ◌*ℤ◌, ◌≤ℤ◌}
use Rattle.std.specs.Ordering.{int_eq}
use Rattle.std.proofs.lemmas.Bool.Decides.{Decides-int_eq}
use Rattle.std.proofs.lemmas.Int.{ints}
use Rattle.lin_facts.specs.Rows.{Assignment, Holds, same_term, sum_of}
use Rattle.lin_facts.specs.declared.row.Part.{Part}
use Rattle.lin_facts.specs.declared.row.Term.{Term}
use Rattle.lin_facts.proofs.Forms.{same_is}
use Rattle.lin_facts.proofs.Integers.{add_mul, zero_mul}
use Rattle.sym_state.specs.References.{at_least, at_most, exceeds}
use Rattle.sym_state.specs.Results.{and_part, kept_part, part, sum_of_three, sum_of_two}
use Rattle.sym_state.proofs.Saying.{minus, once}

-- what rows of one or two terms say
pub at_least_says : (a : Assignment) (t : Term) (n : ℤ) → Holds a (at_least t n) → n ≤ℤ a t
at_least_says a t n h = omega (arith, ints, once (a t), h)

pub at_most_says : (a : Assignment) (t : Term) (n : ℤ) → Holds a (at_most t n) → a t ≤ℤ n
at_most_says a t n h = omega (arith, ints, minus (a t), h)

pub exceeds_says : (a : Assignment) (g l : Term) (n : ℤ) → Holds a (exceeds g l n) → (a l +ℤ n) ≤ℤ a g
exceeds_says a g l n h = omega (arith, ints, once (a g), minus (a l), h)

-- sums of parts

kept_sum : (a : Assignment) (n : ℤ) (t : Term) (parts : List Part) → sum_of a (kept_part n t parts) ≡ n *ℤ a t +ℤ sum_of a parts
kept_sum a n t parts =
    elim (int_eq n (pos 0)) as (λ (b : Bool). int_eq n (pos 0) ≡ b → sum_of a (cond b parts (part n t ∷ parts)) ≡ n *ℤ a t +ℤ sum_of a parts) [
      | true ↦ λ e.
          let none = (Decides-int_eq n (pos 0)).0 e in
          let product : n *ℤ a t ≡ pos 0 = ap (λ (k : ℤ). k *ℤ a t) none ∙ zero_mul (a t) in
          omega (arith, ints, product)
      | false ↦ λ e. refl
    ] refl

pub and_sum : (a : Assignment) (n : ℤ) (t : Term) (parts : List Part) → sum_of a (and_part n t parts) ≡ n *ℤ a t +ℤ sum_of a parts
and_sum a n t [] = kept_sum a n t []
and_sum a n t (first ∷ parts) =
    let m : ℤ = first.coefficient in
    elim (same_term first.term t) as (λ (b : Bool). same_term first.term t ≡ b
    → sum_of a (cond b (kept_part (n +ℤ m) t parts) (first ∷ and_part n t parts)) ≡ n *ℤ a t +ℤ (m *ℤ a first.term +ℤ sum_of a parts)) [
      | true ↦ λ e.
          let kept = kept_sum a (n +ℤ m) t parts in
          let product = add_mul n m (a t) in
          let same : m *ℤ a first.term ≡ m *ℤ a t = ap (λ (x : Term). m *ℤ a x) (same_is first.term t e) in
          omega (arith, ints, kept, product, same)
      | false ↦ λ e. let rest = and_sum a n t parts in omega (arith, ints, rest)
    ] refl

two_sum : (a : Assignment) (m : ℤ) (s : Term) (n : ℤ) (t : Term) → sum_of a (and_part n t (kept_part m s [])) ≡ m *ℤ a s +ℤ n *ℤ a t
two_sum a m s n t = let whole = and_sum a n t (kept_part m s []) in let one = kept_sum a m s [] in omega (arith, ints, whole, one)

three_sum : (a : Assignment) (l : ℤ) (r : Term) (m : ℤ) (s : Term) (n : ℤ) (t : Term)
    → sum_of a (and_part n t (and_part m s (kept_part l r []))) ≡ l *ℤ a r +ℤ (m *ℤ a s +ℤ n *ℤ a t)
three_sum a l r m s n t =
    let whole = and_sum a n t (and_part m s (kept_part l r [])) in
    let two = and_sum a m s (kept_part l r []) in
    let one = kept_sum a l r [] in
    omega (arith, ints, whole, two, one)

pub two_holds : (a : Assignment) (constant m : ℤ) (s : Term) (n : ℤ) (t : Term) → pos 0 ≤ℤ (constant +ℤ (m *ℤ a s +ℤ n *ℤ a t))
    → Holds a (sum_of_two constant m s n t)
two_holds a constant m s n t h = let sum = two_sum a m s n t in omega (arith, ints, sum, h)

pub two_says : (a : Assignment) (constant m : ℤ) (s : Term) (n : ℤ) (t : Term) → Holds a (sum_of_two constant m s n t)
    → pos 0 ≤ℤ (constant +ℤ (m *ℤ a s +ℤ n *ℤ a t))
two_says a constant m s n t h = let sum = two_sum a m s n t in omega (arith, ints, sum, h)

pub three_holds : (a : Assignment) (constant l : ℤ) (r : Term) (m : ℤ) (s : Term) (n : ℤ) (t : Term)
    → pos 0 ≤ℤ (constant +ℤ (l *ℤ a r +ℤ (m *ℤ a s +ℤ n *ℤ a t))) → Holds a (sum_of_three constant l r m s n t)
three_holds a constant l r m s n t h = let sum = three_sum a l r m s n t in omega (arith, ints, sum, h)
