-- Steps from marked bodies to those behind them.
use Rattle.std.proofs.Common.{◌≡◌, ℕ, zero, suc, ◌+◌, ◌-◌, ◌<◌, List, ap, sym, ◌∙◌, refl, arith}
use Rattle.name_table.specs.declared.names.NameId.{NameId}
use Rattle.name_table.specs.declared.style.Style.{Style}
use Rattle.loop_templates.specs.Reaching.{Marks, further, one_further}

-- where a step marks nothing more, no later one does
pub stays_marked : (style : Style) (types : List NameId) (n : ℕ) (marks : Marks)
    → one_further style types 0 style.bodies marks ≡ marks → further style types n marks ≡ marks
stays_marked style types zero marks same = refl
stays_marked style types (suc n) marks same =
    ap (λ (behind : Marks). further style types n behind) same ∙ stays_marked style types n marks same

-- one step less is left
pub step_taken : (style : Style) (types : List NameId) (at many : ℕ) (old new last : Marks)
    → ((left : ℕ) → left + at ≡ many → further style types left old ≡ last)
    → new ≡ one_further style types 0 style.bodies old
    → (left : ℕ) → left + (at + 1) ≡ many → further style types left new ≡ last
step_taken style types at many old new last before step left e =
    ap (λ (behind : Marks). further style types left behind) step ∙ before (suc left) (omega (arith, e))

-- where a step marks nothing more, what is marked is what is behind all steps
pub step_in_vain : (style : Style) (types : List NameId) (at many : ℕ) (old new last : Marks)
    → ((left : ℕ) → left + at ≡ many → further style types left old ≡ last)
    → new ≡ one_further style types 0 style.bodies old
    → old ≡ new → at < many → new ≡ last
step_in_vain style types at many old new last before step same more =
    let left : ℕ = many - at in
    sym same ∙ sym (stays_marked style types left old (sym step ∙ sym same)) ∙ before left (omega (arith, more))
