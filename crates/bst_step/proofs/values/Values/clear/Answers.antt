-- No value is held any more.
use Rattle.std.proofs.Common.{◌∙◌, List, ℕ, ap, drop, le_refl, length, map, []}
use Rattle.std.proofs.lemmas.List.{drop_all}
use Rattle.bst_step.specs.declared.held.Held.{Held}
use Rattle.bst_step.specs.Held.{value_in}
use Rattle.bst_step.specs.Marks.{cleared, mark_of}
use Rattle.bst_step.proofs.MarkSteps.{stack_marked}
use Rattle.bst_step.specs.Values.{Holding}
use Rattle.bst_step.proofs.HeldSteps.{held_dropped}
use Rattle.bst_step.proofs.values.Values.clear.Goals as goal

pub invariant_of-self : goal.invariant_of-self
invariant_of-self c = held_dropped _ _ _ _ _ _ _ c.drop_top.ensures.moved c.self.invariant

pub returns-clause-stack : goal.returns-clause-stack
returns-clause-stack c =
    ap (λ (hs : List Held). map (value_in c.self.inside.pool.items) hs)
    (c.drop_top.ensures.moved
    ∙ ap (λ (n : ℕ). drop n c.self.inside.stack.items) c.len.ensures
    ∙ drop_all (length c.self.inside.stack.items) c.self.inside.stack.items (le_refl (length c.self.inside.stack.items)))

pub returns-clause-marks : goal.returns-clause-marks
returns-clause-marks c =
    stack_marked c.self.inside.stack.items c.drop_top.new.self.items c.self.inside.globals c.self.inside.entries []
    (ap (λ (hs : List Held). map mark_of hs)
    (c.drop_top.ensures.moved
    ∙ ap (λ (n : ℕ). drop n c.self.inside.stack.items) c.len.ensures
    ∙ drop_all (length c.self.inside.stack.items) c.self.inside.stack.items (le_refl (length c.self.inside.stack.items))))
    ∙ ap (λ (h : Holding). cleared h.marks) c.self.view_is
