-- The top is seen over the pool.
use Rattle.std.proofs.Common.{◌≡◌, ◌∙◌, ◌∷◌, List, ℕ, ap, drop, map, subst, sym}
use Rattle.bst_meaning.specs.declared.value.Value.{Value}
use Rattle.bst_step.specs.declared.held.Held.{Held}
use Rattle.bst_step.specs.Held.{value_in, value_of}
use Rattle.bst_step.specs.Values.{Holding}
use Rattle.bst_step.proofs.ViewSteps.{top_view}
use Rattle.bst_step.proofs.values.Values.top.Goals as goal

pub returns-in-Some : goal.returns-in-Some
returns-in-Some c =
    subst (λ (vs : List Value). vs ≡ value_of c.operand.result ∷ drop 1 vs) (ap (λ (h : Holding). h.stack) c.self.view_is)
    (top_view c.self.inside.pool.items c.self.inside.stack.items c.in-Some.held (value_of c.operand.result) c.in-Some.ensures
    (c.operand.ensures ∙ ap (λ (pool : List ℕ). value_in pool c.in-Some.held) c.as_slice.ensures.value))

pub returns-in-None : goal.returns-in-None
returns-in-None c =
    sym (ap (λ (h : Holding). h.stack) c.self.view_is)
    ∙ ap (λ (hs : List Held). map (value_in c.self.inside.pool.items) hs) c.in-None.ensures
