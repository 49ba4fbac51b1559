-- The entries have their positions after steps.
use Rattle.std.proofs.Common.{◌≡◌, ℕ, zero, suc, ◌+◌, ◌-◌, ◌≤◌, map, sym, ap, subst, ◌∙◌, arith}
use Rattle.std.proofs.lemmas.List.Sorted.{IsPermutation-trans}
use Rattle.name_table.specs.declared.style.Style.{Style}
use Rattle.bst_meaning.specs.Config.{Config}
use Rattle.bst_meaning.specs.Keeping.{placed}
use Rattle.bst_meaning.specs.Machine.{step, steps}
use Rattle.bst_meaning.proofs.Placed.{steps_same}
use Rattle.bst_step.specs.Machine.{HasEntriesOf}
use Rattle.bst_step.specs.MarkRules.{marks_after, marks_after_steps}
use Rattle.bst_step.specs.Marks.{Marks}

-- the steps that are left after some of them
steps_after : (style : Style) (more n : ℕ) (c : Config) → more ≤ n → steps style (n - more) (steps style more c) ≡ steps style n c
steps_after style zero n c h =
    let all : n - zero ≡ n = omega arith in
    ap (λ (k : ℕ). steps style k c) all
steps_after style (suc more) zero c h = absurd (omega (arith, h))
steps_after style (suc more) (suc n) c h =
    let less : suc n - suc more ≡ n - more = omega arith in
    ap (λ (k : ℕ). steps style k (steps style more (step style c))) less ∙ steps_after style more n (step style c) (omega (arith, h))

-- one step of those that are left, and some more
pub some_less : (style : Style) (more n : ℕ) (before after : Config) → more + 1 ≤ n → after ≡ steps style more (step style before)
    → steps style (n - (more + 1)) after ≡ steps style n before
some_less style more zero before after some is = absurd (omega (arith, some))
some_less style more (suc n) before after some is =
    let less : suc n - (more + 1) ≡ n - more = omega arith in
    ap (λ (k : ℕ). steps style k after) less
    ∙ ap (λ (c : Config). steps style (n - more) c) is
    ∙ steps_after style more n (step style before) (omega (arith, some))

-- a configuration is that after some steps of another
pub places_after : (style : Style) (n : ℕ) (old before after : Config) → after ≡ steps style n before → HasEntriesOf old before → HasEntriesOf old after
places_after style n old before after is h =
    subst (HasEntriesOf old) (sym is)
    (IsPermutation-trans (map placed old.entries) (map placed before.entries) (map placed (steps style n before).entries) h (steps_same style n before))

-- the same of marks
marks_steps_after : (style : Style) (more n : ℕ) (c : Config) (m : Marks) → more ≤ n
    → marks_after_steps style (n - more) (steps style more c) (marks_after_steps style more c m) ≡ marks_after_steps style n c m
marks_steps_after style zero n c m h =
    let all : n - zero ≡ n = omega arith in
    ap (λ (k : ℕ). marks_after_steps style k c m) all
marks_steps_after style (suc more) zero c m h = absurd (omega (arith, h))
marks_steps_after style (suc more) (suc n) c m h =
    let less : suc n - suc more ≡ n - more = omega arith in
    ap (λ (k : ℕ). marks_after_steps style k (steps style more (step style c)) (marks_after_steps style more (step style c) (marks_after style c m))) less
    ∙ marks_steps_after style more n (step style c) (marks_after style c m) (omega (arith, h))

pub marks_some_less : (style : Style) (more n : ℕ) (before after : Config) (m later : Marks) → more + 1 ≤ n
    → after ≡ steps style more (step style before) → later ≡ marks_after_steps style more (step style before) (marks_after style before m)
    → marks_after_steps style (n - (more + 1)) after later ≡ marks_after_steps style n before m
marks_some_less style more zero before after m later some is marked = absurd (omega (arith, some))
marks_some_less style more (suc n) before after m later some is marked =
    let less : suc n - (more + 1) ≡ n - more = omega arith in
    ap (λ (k : ℕ). marks_after_steps style k after later) less
    ∙ ap (λ (c : Config). marks_after_steps style (n - more) c later) is
    ∙ ap (λ (k : Marks). marks_after_steps style (n - more) (steps style more (step style before)) k) marked
    ∙ marks_steps_after style more n (step style before) (marks_after style before m) (omega (arith, some))
