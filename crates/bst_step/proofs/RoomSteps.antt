-- Steps that take only room, one after the other.
use Rattle.std.proofs.Common.{◌≡◌, ℕ, zero, suc, ◌+◌, ◌-◌, ◌<◌, ◌≤◌, true, sym, subst, arith}
use Rattle.name_table.specs.declared.style.Style.{Style}
use Rattle.bst_meaning.specs.Config.{Config}
use Rattle.bst_meaning.specs.Machine.{step, steps}
use Rattle.bst_step.specs.Room.{TakeRoom, step_takes_room}

-- the first of them
pub first_takes : (style : Style) (n : ℕ) (c : Config) → 0 < n → TakeRoom style n c → step_takes_room style c ≡ true
first_takes style zero c some takes = absurd (omega (arith, some))
first_takes style (suc n) c some takes = takes.0

-- those after some of them
takes_after : (style : Style) (more n : ℕ) (c : Config) → more ≤ n → TakeRoom style n c → TakeRoom style (n - more) (steps style more c)
takes_after style zero n c h takes =
    let all : n - zero ≡ n = omega arith in
    subst (λ (k : ℕ). TakeRoom style k c) (sym all) takes
takes_after style (suc more) zero c h takes = absurd (omega (arith, h))
takes_after style (suc more) (suc n) c h takes =
    let less : suc n - suc more ≡ n - more = omega arith in
    subst (λ (k : ℕ). TakeRoom style k (steps style more (step style c))) (sym less) (takes_after style more n (step style c) (omega (arith, h)) takes.1)

pub later_take : (style : Style) (more n : ℕ) (before after : Config) → more + 1 ≤ n → after ≡ steps style more (step style before)
    → TakeRoom style n before → TakeRoom style (n - (more + 1)) after
later_take style more zero before after some is takes = absurd (omega (arith, some))
later_take style more (suc n) before after some is takes =
    let less : suc n - (more + 1) ≡ n - more = omega arith in
    subst (λ (k : ℕ). TakeRoom style k after) (sym less)
    (subst (λ (c : Config). TakeRoom style (n - more) c) (sym is) (takes_after style more n (step style before) (omega (arith, some)) takes.1))
