-- The two topmost values are held in each other's place.
use Rattle.std.proofs.Common.{◌≡◌, ◌<◌, ◌∙◌, List, ap, arith, length, subst, sym, map}
use Rattle.std.proofs.lemmas.List.{length-set}
use Rattle.bst_meaning.specs.declared.value.Value.{Value}
use Rattle.bst_step.specs.declared.held.Held.{Held}
use Rattle.bst_step.specs.Stack.{swapped}
use Rattle.bst_step.specs.Values.{Holding}
use Rattle.bst_step.proofs.HeldSteps.{held_replaced, held_set, stack_end, top_end}
use Rattle.bst_step.proofs.ViewSteps.{is_there, no_second, swapped_view}
use Rattle.bst_step.proofs.MarkSteps.{none_swapped, stack_marked, swapped_marks}
use Rattle.bst_step.specs.Marks.{mark_of}
use Rattle.bst_step.specs.Marks as marks
use Rattle.bst_step.proofs.values.Values.swap.Goals as goal

pub at-requires : goal.at-requires
at-requires c = omega (arith, is_there c.self.inside.stack.items 1 c.in-Some.a (sym c.in-Some.ensures))

pub replace-requires : goal.replace-requires
replace-requires c = (omega arith, is_there c.self.inside.stack.items 1 c.in-Some.a (sym c.in-Some.ensures))

pub replace_top-requires : goal.replace_top-requires
replace_top-requires c =
    omega (
      arith,
      is_there c.self.inside.stack.items 1 c.in-Some.a (sym c.in-Some.ensures),
      ap (λ (l : List Held). length l) c.replace.ensures.moved,
      length-set c.self.inside.stack.items 1 c.at.result,
    )

pub invariant_of-self : goal.invariant_of-self
invariant_of-self c =
    let some : 0 < length c.self.inside.stack.items = omega (arith, is_there c.self.inside.stack.items 1 c.in-Some.a (sym c.in-Some.ensures)) in
    held_replaced c.self.inside.pool.items c.self.inside.kept 1 c.in-Some.a c.replace.new.self.items c.replace_top.new.self.items
    c.self.inside.globals c.self.inside.entries c.replace_top.ensures.moved
    (stack_end c.self.inside.pool.items c.self.inside.kept c.self.inside.stack.items c.self.inside.globals c.self.inside.entries 1 c.in-Some.a
    c.self.invariant (sym c.in-Some.ensures))
    (held_set c.self.inside.pool.items c.self.inside.kept 1 c.at.result c.self.inside.stack.items c.replace.new.self.items
    c.self.inside.globals c.self.inside.entries c.replace.ensures.moved
    (top_end c.self.inside.pool.items c.self.inside.kept c.self.inside.stack.items c.self.inside.globals c.self.inside.entries c.at.result
    some c.at.ensures c.self.invariant)
    c.self.invariant)

pub returns-clause-stack : goal.returns-clause-stack
returns-clause-stack c =
    swapped_view c.self.inside.pool.items c.self.inside.stack.items c.replace.new.self.items c.replace_top.new.self.items c.at.result c.in-Some.a
    c.at.ensures (sym c.in-Some.ensures) c.replace.ensures.moved c.replace_top.ensures.moved
    ∙ ap (λ (h : Holding). swapped h.stack) c.self.view_is

pub returns-in_default-clause-stack : goal.returns-in_default-clause-stack
returns-in_default-clause-stack c =
    subst (λ (vs : List Value). vs ≡ swapped vs) (ap (λ (h : Holding). h.stack) c.self.view_is)
    (sym (no_second c.self.inside.pool.items c.self.inside.stack.items (sym c.in_default.ensures)))

pub returns-clause-marks : goal.returns-clause-marks
returns-clause-marks c =
    stack_marked c.self.inside.stack.items c.replace_top.new.self.items c.self.inside.globals c.self.inside.entries (swapped (map mark_of c.self.inside.stack.items))
    (swapped_marks c.self.inside.stack.items c.replace.new.self.items c.replace_top.new.self.items c.at.result c.in-Some.a c.at.ensures (sym c.in-Some.ensures)
    c.replace.ensures.moved c.replace_top.ensures.moved)
    ∙ ap (λ (h : Holding). marks.swapped h.marks) c.self.view_is

pub returns-in_default-clause-marks : goal.returns-in_default-clause-marks
returns-in_default-clause-marks c =
    sym (ap (λ (h : Holding). h.marks) c.self.view_is)
    ∙ stack_marked c.self.inside.stack.items c.self.inside.stack.items c.self.inside.globals c.self.inside.entries (swapped (map mark_of c.self.inside.stack.items)) (sym (none_swapped c.self.inside.stack.items (sym c.in_default.ensures)))
    ∙ ap (λ (h : Holding). marks.swapped h.marks) c.self.view_is
