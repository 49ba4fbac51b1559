-- The value at the depth is seen over the pool.
use Rattle.std.proofs.Common.{◌∙◌, ap, arith, get_or, length, List, ℕ}
use Rattle.std.proofs.lemmas.List.{length-map}
use Rattle.bst_step.specs.Held.{value_in, value_of}
use Rattle.bst_step.specs.Values.{Holding}
use Rattle.bst_step.proofs.ViewSteps.{value_below}
use Rattle.bst_step.proofs.values.Values.at.Goals as goal

pub at-requires : goal.at-requires
at-requires c =
    omega (arith, c.requires, ap (λ (h : Holding). length h.stack) c.self.view_is, length-map c.self.inside.stack.items (value_in c.self.inside.pool.items))

pub returns : goal.returns
returns c =
    value_below c.self.inside.pool.items c.self.inside.stack.items c.args.depth c.at.result (value_of c.operand.result) c.at.ensures
    (c.operand.ensures ∙ ap (λ (pool : List ℕ). value_in pool c.at.result) c.as_slice.ensures.value)
    ∙ ap (λ (h : Holding). get_or h.stack c.args.depth (value_of c.operand.result)) c.self.view_is
