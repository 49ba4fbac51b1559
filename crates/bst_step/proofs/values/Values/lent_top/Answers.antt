-- The top has the bytes that are lent.
use Rattle.std.proofs.Common.{◌≡◌, ◌∷◌, List, ap, drop, subst}
use Rattle.std.specs.Option.{IfSome}
use Rattle.bst_meaning.specs.declared.value.Value.{Value}
use Rattle.bst_meaning.specs.declared.value.Value.TheVariants.{Str}
use Rattle.bst_step.specs.Values.{Holding}
use Rattle.bst_step.proofs.ViewSteps.{lent_view}
use Rattle.bst_step.proofs.values.Values.lent_top.Goals as goal

pub returns-in-Some : goal.returns-in-Some
returns-in-Some c =
    subst (λ (vs : List Value). IfSome c.lent.result (λ bytes. vs ≡ Str bytes.now ∷ drop 1 vs)) (ap (λ (h : Holding). h.stack) c.self.view_is)
    (lent_view c.self.inside.pool.items c.self.inside.stack.items c.in-Some.top c.lent.result c.in-Some.ensures c.lent.ensures)
