-- A part of the string on top is held.
use Rattle.std.proofs.Common.{◌≡◌, ◌≤◌, ◌∙◌, List, ℕ, ap, arith, length, subst, map}
use Rattle.bst_step.specs.declared.held.Held.{Held}
use Rattle.bst_step.specs.Held.{end_of, part_from, value_in}
use Rattle.bst_step.specs.Values.{Holding, cut}
use Rattle.bst_step.proofs.HeldSteps.{held_replaced, top_in_lent, top_within}
use Rattle.bst_step.proofs.ViewSteps.{cut_view}
use Rattle.bst_step.proofs.MarkSteps.{cut_marks, stack_marked}
use Rattle.bst_step.specs.Marks.{mark_of}
use Rattle.bst_step.proofs.values.Values.cut_top.Goals as goal

pub part-requires : goal.part-requires
part-requires c = top_in_lent _ _ _ _ _ _ _ c.self.invariant c.in-Some.ensures c.as_slice.ensures.value

pub replace_top-requires : goal.replace_top-requires
replace_top-requires c = omega (arith, ap (λ (l : List Held). length l) c.in-Some.ensures)

pub invariant_of-self : goal.invariant_of-self
invariant_of-self c =
    let within : end_of c.in-Some.top ≤ length c.self.inside.pool.items =
    top_within c.self.inside.pool.items c.self.inside.kept c.self.inside.stack.items c.self.inside.globals c.self.inside.entries c.in-Some.top
    c.self.invariant c.in-Some.ensures in
    held_replaced c.self.inside.pool.items c.self.inside.kept 1 c.part.result c.self.inside.stack.items c.replace_top.new.self.items
    c.self.inside.globals c.self.inside.entries c.replace_top.ensures.moved (omega (arith, within, c.part.ensures.within)) c.self.invariant

pub returns-clause-stack : goal.returns-clause-stack
returns-clause-stack c =
    cut_view c.self.inside.pool.items c.self.inside.stack.items c.replace_top.new.self.items c.in-Some.top c.part.result c.args.from c.args.count
    c.in-Some.ensures c.replace_top.ensures.moved
    (subst (λ (pool : List ℕ). value_in pool c.part.result ≡ part_from c.args.from c.args.count (value_in pool c.in-Some.top)) c.as_slice.ensures.value
    c.part.ensures.value)
    ∙ ap (λ (h : Holding). cut c.args.from c.args.count h.stack) c.self.view_is

pub returns-clause-marks : goal.returns-clause-marks
returns-clause-marks c =
    stack_marked c.self.inside.stack.items c.replace_top.new.self.items c.self.inside.globals c.self.inside.entries (map mark_of c.self.inside.stack.items)
    (cut_marks c.self.inside.stack.items c.replace_top.new.self.items c.in-Some.top c.part.result c.in-Some.ensures
    c.replace_top.ensures.moved c.part.ensures.mark)
    ∙ ap (λ (h : Holding). h.marks) c.self.view_is
