-- Where a step shows a row, the row holds wherever the used rows hold.
use Rattle.std.proofs.Common.{◌≡◌, List, [], ◌∷◌, ◌++◌, ap, ◌∙◌, refl, arith}
use Rattle.std.specs.Prelude.{pos, negsuc, ◌+ℤ◌, ◌*ℤ◌, ◌≤ℤ◌}
use Rattle.std.proofs.lemmas.Int.{ints}
use Rattle.std.proofs.lemmas.List.Elements.{All-head, All-tail}
use Rattle.lin_facts.specs.Rows.{coefficient_of, sum_of, value_of, Holds, Assignment}
use Rattle.lin_facts.specs.Follows.{row_at, summed, Follows, UsedHold}
use Rattle.lin_facts.specs.declared.row.Term.{Term}
use Rattle.lin_facts.specs.declared.row.Part.{Part}
use Rattle.lin_facts.specs.declared.row.Row.{Row}
use Rattle.lin_facts.specs.declared.row.StepUse.{StepUse}
use Rattle.lin_facts.specs.declared.row.Step.{Step}
use Rattle.lin_facts.specs.declared.follows.Column.TheVariants.{Constant, At}
use Rattle.lin_facts.proofs.Integers.{mul_add, times_not_negative, not_below, minus_is}
use Rattle.lin_facts.proofs.Forms.{scaled, coefficient_scaled, sum_scaled, coefficient_append, sum_append, zero_sum}

-- the parts of the used rows, one after another
abbrev pub used_parts : List Row → List StepUse → List Part
used_parts rows [] = []
used_parts rows (u ∷ us) = scaled (pos u.times) (row_at rows u.row).parts ++ used_parts rows us

coefficient_used : (rows : List Row) (uses : List StepUse) (t : Term) → coefficient_of (used_parts rows uses) t ≡ summed rows (At t) uses
coefficient_used rows [] t = refl
coefficient_used rows (u ∷ us) t =
    coefficient_append (scaled (pos u.times) (row_at rows u.row).parts) (used_parts rows us) t
    ∙ ap (λ x. x +ℤ coefficient_of (used_parts rows us) t) (coefficient_scaled (pos u.times) (row_at rows u.row).parts t)
    ∙ ap (λ x. pos u.times *ℤ coefficient_of (row_at rows u.row).parts t +ℤ x) (coefficient_used rows us t)

-- the sum of the used rows isn't negative where they hold
used_not_negative :
    (a : Assignment) (rows : List Row) (uses : List StepUse) → UsedHold a rows uses →
    pos 0 ≤ℤ (summed rows Constant uses +ℤ sum_of a (used_parts rows uses))
used_not_negative a rows [] holds = omega (arith, ints)
used_not_negative a rows (u ∷ us) holds =
    let row = row_at rows u.row in
    let Used : StepUse → Type 0 = λ v. Holds a (row_at rows v.row) in
    let parts = scaled (pos u.times) row.parts in
    let here : pos 0 ≤ℤ (pos u.times *ℤ value_of a row) = times_not_negative u.times (value_of a row) (All-head Used u us holds) in
    let rest = used_not_negative a rows us (All-tail Used u us holds) in
    omega (arith, ints, here, rest, mul_add (pos u.times) row.constant (sum_of a row.parts), sum_append a parts (used_parts rows us), sum_scaled a (pos u.times) row.parts)

-- the goal's parts, taken as often as the divisor says, without those of the used rows
abbrev pub difference : List Row → Step → Row → List Part
difference rows step goal = scaled (pos step.divisor) goal.parts ++ scaled (negsuc 0) (used_parts rows step.uses)

no_difference : (rows : List Row) (step : Step) (goal : Row) → Follows rows step goal → (t : Term) → coefficient_of (difference rows step goal) t ≡ pos 0
no_difference rows step goal h t =
    coefficient_append (scaled (pos step.divisor) goal.parts) (scaled (negsuc 0) (used_parts rows step.uses)) t
    ∙ omega (arith, ints, coefficient_scaled (pos step.divisor) goal.parts t, coefficient_scaled (negsuc 0) (used_parts rows step.uses) t, minus_is (coefficient_of (used_parts rows step.uses) t), coefficient_used rows step.uses t, h.terms t)

pub sound : (a : Assignment) (rows : List Row) (step : Step) (goal : Row) → Follows rows step goal → UsedHold a rows step.uses → Holds a goal
sound a rows step goal h holds =
    let used = used_parts rows step.uses in
    let even : sum_of a (difference rows step goal) ≡ pos 0 = zero_sum a (difference rows step goal) (no_difference rows step goal h) in
    not_below step.divisor (value_of a goal)
    (omega (arith, ints, even, h.constant, used_not_negative a rows step.uses holds, mul_add (pos step.divisor) goal.constant (sum_of a goal.parts), sum_append a (scaled (pos step.divisor) goal.parts) (scaled (negsuc 0) used), sum_scaled a (pos step.divisor) goal.parts, sum_scaled a (negsuc 0) used, minus_is (sum_of a used)))
