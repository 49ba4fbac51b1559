-- Fewer values are held.
use Rattle.std.proofs.Common.{◌∙◌, List, ap, drop, map, sym}
use Rattle.bst_step.specs.declared.held.Held.{Held}
use Rattle.bst_step.specs.Held.{value_in}
use Rattle.bst_step.specs.Values.{Holding}
use Rattle.bst_step.proofs.ViewSteps.{dropped_view}
use Rattle.std.proofs.lemmas.List.{drop-map}
use Rattle.bst_step.specs.Marks.{mark_of, taken}
use Rattle.bst_step.proofs.MarkSteps.{stack_marked}
use Rattle.bst_step.proofs.HeldSteps.{held_dropped}
use Rattle.bst_step.proofs.values.Values.drop_top.Goals as goal

pub invariant_of-self : goal.invariant_of-self
invariant_of-self c = held_dropped _ _ _ _ _ _ _ c.drop_top.ensures.moved c.self.invariant

pub returns-clause-stack : goal.returns-clause-stack
returns-clause-stack c =
    ap (λ (hs : List Held). map (value_in c.self.inside.pool.items) hs) c.drop_top.ensures.moved
    ∙ dropped_view c.self.inside.pool.items c.args.count c.self.inside.stack.items
    ∙ ap (λ (h : Holding). drop c.args.count h.stack) c.self.view_is

pub returns-clause-marks : goal.returns-clause-marks
returns-clause-marks c =
    stack_marked c.self.inside.stack.items c.drop_top.new.self.items c.self.inside.globals c.self.inside.entries (drop c.args.count (map mark_of c.self.inside.stack.items))
    (ap (λ (hs : List Held). map mark_of hs) c.drop_top.ensures.moved ∙ sym (drop-map mark_of c.args.count c.self.inside.stack.items))
    ∙ ap (λ (h : Holding). taken c.args.count h.marks) c.self.view_is
