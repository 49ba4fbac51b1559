-- The test at the terms that stand in the goal and the used rows decides every term.
use Rattle.std.proofs.Common.{◌≡◌, ℕ, ◌<◌, ◌⊎◌, inl, inr, Bool, true, false, cond, List, [], ◌∷◌, length, ap, sym, ◌∙◌, refl, arith, ltb-true, lt-ltb}
use Rattle.std.specs.Prelude.{ℤ, pos, ◌+ℤ◌, ◌-ℤ◌, ◌*ℤ◌, neg_ℤ, nat_lt}
use Rattle.std.specs.List.{All, list_all}
use Rattle.std.proofs.lemmas.Int.{ints}
use Rattle.std.proofs.lemmas.Bool.{and_parts, and_from}
use Rattle.std.proofs.lemmas.List.Elements.{All-nil, All-cons, All-head, All-tail}
use Rattle.std.proofs.lemmas.Bool.Decides.{Decides-int_eq}
use borrow.Author.Differences.{lt-true, below_in, true_is_lt, lt_out}
use Rattle.lin_facts.specs.Rows.{same_term, coefficient_of}
use Rattle.lin_facts.specs.Follows.{row_at, summed, left_over, Follows, cancels, cancel, follows}
use Rattle.lin_facts.specs.declared.row.Term.{Term}
use Rattle.lin_facts.specs.declared.row.Part.{Part}
use Rattle.lin_facts.specs.declared.row.Row.{Row}
use Rattle.lin_facts.specs.declared.row.StepUse.{StepUse}
use Rattle.lin_facts.specs.declared.row.Step.{Step}
use Rattle.lin_facts.specs.declared.follows.Column.TheVariants.{Constant, At}
use Rattle.lin_facts.proofs.Integers.{mul_zero}
use Rattle.lin_facts.proofs.Forms.{same_is}

-- a test that holds at each part's term holds at a term, or the parts don't take it
holds_or_zero : (f : Term → Bool) (t : Term) (parts : List Part) → list_all (λ part. f part.term) parts ≡ true → (f t ≡ true) ⊎ (coefficient_of parts t ≡ pos 0)
holds_or_zero f t [] all = inr refl
holds_or_zero f t (part ∷ parts) all =
    let both = and_parts (f part.term) (list_all (λ p. f p.term) parts) all in
    elim (same_term part.term t) as (λ b. same_term part.term t ≡ b → (f t ≡ true) ⊎ ((cond b part.coefficient (pos 0) +ℤ coefficient_of parts t) ≡ pos 0)) [
      | true ↦ λ e. inl (ap f (sym (same_is part.term t e)) ∙ both.0)
      | false ↦ λ e. elim (holds_or_zero f t parts both.1) [
        | inl holds ↦ inl holds
        | inr none ↦ inr (omega (arith, ints, none))
      ]
    ] refl

uses_or_zero :
    (f : Term → Bool) (t : Term) (rows : List Row) (uses : List StepUse) →
    list_all (λ u. list_all (λ part. f part.term) (row_at rows u.row).parts) uses ≡ true →
    (f t ≡ true) ⊎ (summed rows (At t) uses ≡ pos 0)
uses_or_zero f t rows [] all = inr refl
uses_or_zero f t rows (u ∷ us) all =
    let both = and_parts (list_all (λ part. f part.term) (row_at rows u.row).parts) (list_all (λ v. list_all (λ part. f part.term) (row_at rows v.row).parts) us) all in
    elim (holds_or_zero f t (row_at rows u.row).parts both.0) [
      | inl holds ↦ inl holds
      | inr none ↦ elim (uses_or_zero f t rows us both.1) [
        | inl holds ↦ inl holds
        | inr rest ↦ inr (ap (λ x. pos u.times *ℤ x +ℤ summed rows (At t) us) none ∙ omega (arith, ints, mul_zero (pos u.times), rest))
      ]
    ]

zero_left : (d : ℕ) (x y : ℤ) → x ≡ pos 0 → y ≡ pos 0 → (pos d *ℤ x) -ℤ y ≡ pos 0
zero_left d x y none rest = ap (λ v. (pos d *ℤ v) -ℤ y) none ∙ omega (arith, ints, mul_zero (pos d), rest)

-- the two tests at the terms decide every term
at_every_term :
    (rows : List Row) (step : Step) (goal : Row) (t : Term) →
    cancel rows step goal goal.parts ≡ true → list_all (λ u. cancel rows step goal (row_at rows u.row).parts) step.uses ≡ true →
    left_over rows step goal (At t) ≡ pos 0
at_every_term rows step goal t of_goal of_uses =
    let decided = Decides-int_eq (left_over rows step goal (At t)) (pos 0) in
    elim (holds_or_zero (cancels rows step goal) t goal.parts of_goal) [
      | inl holds ↦ decided.0 holds
      | inr none ↦ elim (uses_or_zero (cancels rows step goal) t rows step.uses of_uses) [
        | inl holds ↦ decided.0 holds
        | inr rest ↦ zero_left step.divisor _ _ none rest
      ]
    ]

all_below : (n : ℕ) (uses : List StepUse) → list_all (λ u. nat_lt u.row n) uses ≡ true → All (λ u. u.row < n) uses
all_below n [] all = All-nil (λ u. u.row < n)
all_below n (u ∷ us) all =
    let both = and_parts (nat_lt u.row n) (list_all (λ v. nat_lt v.row n) us) all in
    All-cons (λ v. v.row < n) u us (ltb-true u.row n both.0) (all_below n us both.1)

all_tested : (n : ℕ) (uses : List StepUse) → All (λ u. u.row < n) uses → list_all (λ u. nat_lt u.row n) uses ≡ true
all_tested n [] all = refl
all_tested n (u ∷ us) all = and_from _ _ (lt-ltb u.row n (All-head (λ v. v.row < n) u us all)) (all_tested n us (All-tail (λ v. v.row < n) u us all))

always : {X : Type 0} (f : X → Bool) (xs : List X) → ((x : X) → f x ≡ true) → list_all f xs ≡ true
always f [] holds = refl
always f (x ∷ xs) holds = and_from _ _ (holds x) (always f xs holds)

pub follows_then : (rows : List Row) (step : Step) (goal : Row) → follows rows step goal ≡ true → Follows rows step goal
follows_then rows step goal e =
    let divisor = and_parts _ _ e in
    let range = and_parts _ _ divisor.1 in
    let constant = and_parts _ _ range.1 in
    let terms = and_parts _ _ constant.1 in
    record {
      divisor = ltb-true 0 step.divisor divisor.0;
      in_range = all_below (length rows) step.uses range.0;
      constant = below_in (neg_ℤ (pos step.divisor)) (left_over rows step goal Constant) (lt-true (neg_ℤ (pos step.divisor)) (left_over rows step goal Constant) constant.0);
      terms = λ t. at_every_term rows step goal t terms.0 terms.1;
    }

pub then_follows : (rows : List Row) (step : Step) (goal : Row) → Follows rows step goal → follows rows step goal ≡ true
then_follows rows step goal h =
    let at : (t : Term) → cancels rows step goal t ≡ true = λ t. (Decides-int_eq (left_over rows step goal (At t)) (pos 0)).1 (h.terms t) in
    and_from _ _ (lt-ltb 0 step.divisor h.divisor)
    (and_from _ _ (all_tested (length rows) step.uses h.in_range)
    (and_from _ _ (sym (true_is_lt (neg_ℤ (pos step.divisor)) (left_over rows step goal Constant) (lt_out (neg_ℤ (pos step.divisor)) (left_over rows step goal Constant) h.constant)))
    (and_from _ _ (always (λ part. cancels rows step goal part.term) goal.parts (λ part. at part.term))
    (always (λ u. cancel rows step goal (row_at rows u.row).parts) step.uses
    (λ u. always (λ part. cancels rows step goal part.term) (row_at rows u.row).parts (λ part. at part.term))))))
