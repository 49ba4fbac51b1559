-- The pool grows by the joined string, which is held in the two strings' place.
use Rattle.std.proofs.Common.{◌≡◌, ◌<◌, ◌∙◌, ◌∷◌, List, ap, arith, drop, length, subst, sym, map}
use Rattle.std.proofs.lemmas.List.{length-map}
use Rattle.bst_meaning.specs.declared.value.Value.{Value}
use Rattle.bst_step.specs.Held.{value_in}
use Rattle.bst_step.specs.declared.held.Held.{Held}
use Rattle.bst_step.specs.Values.{Holding, joined}
use Rattle.bst_step.proofs.HeldSteps.{entries_seen, globals_seen, held_dropped, held_grown, held_replaced, stack_end, stack_grown, top_end}
use Rattle.bst_step.proofs.ViewSteps.{is_there, joined_view, none_joined, second_left}
use Rattle.bst_step.proofs.MarkSteps.{joined_marks, no_two, stack_marked}
use Rattle.bst_step.specs.Marks.{Made, mark_of, resulting}
use Rattle.bst_step.proofs.values.Values.join.Goals as goal

pub at-requires : goal.at-requires
at-requires c = omega (arith, is_there c.self.inside.stack.items 1 c.in-Some.a (sym c.in-Some.ensures))

pub joined_in-requires : goal.joined_in-requires
joined_in-requires c =
    let some : 0 < length c.self.inside.stack.items = omega (arith, is_there c.self.inside.stack.items 1 c.in-Some.a (sym c.in-Some.ensures)) in
    record {
      a =
          stack_end c.self.inside.pool.items c.self.inside.kept c.self.inside.stack.items c.self.inside.globals c.self.inside.entries 1
          c.in-Some.a c.self.invariant (sym c.in-Some.ensures);
      b =
          top_end c.self.inside.pool.items c.self.inside.kept c.self.inside.stack.items c.self.inside.globals c.self.inside.entries
          c.at.result some c.at.ensures c.self.invariant;
    }

pub invariant_of-self : goal.invariant_of-self
invariant_of-self c =
    held_grown c.self.inside.pool.items c.joined_in.new.pool.items c.self.inside.kept c.self.inside.stack.items c.self.inside.globals
    c.self.inside.entries c.joined_in.ensures.grown c.self.invariant

pub returns-in_err-joined-in-Some-clause-globals : goal.returns-in_err-joined-in-Some-clause-globals
returns-in_err-joined-in-Some-clause-globals c = globals_seen _ _ _ _ _ _ _ _ c.joined_in.ensures.grown c.self.invariant c.self.view_is

pub returns-in_err-joined-in-Some-clause-entries : goal.returns-in_err-joined-in-Some-clause-entries
returns-in_err-joined-in-Some-clause-entries c = entries_seen _ _ _ _ _ _ _ _ c.joined_in.ensures.grown c.self.invariant c.self.view_is

pub replace_top-requires : goal.replace_top-requires
replace_top-requires c =
    (omega arith, second_left c.self.inside.stack.items c.drop_top.new.self.items c.in-Some.a (sym c.in-Some.ensures) c.drop_top.ensures.moved)

pub invariant_of-self-in-Some : goal.invariant_of-self-in-Some
invariant_of-self-in-Some c =
    held_replaced c.joined_in.new.pool.items c.self.inside.kept 1 c.in_ok-joined-in-Some.joined c.drop_top.new.self.items c.replace_top.new.self.items
    c.self.inside.globals c.self.inside.entries c.replace_top.ensures.moved c.in_ok-joined-in-Some.ensures.within
    (held_dropped c.joined_in.new.pool.items c.self.inside.kept 1 c.self.inside.stack.items c.drop_top.new.self.items c.self.inside.globals
    c.self.inside.entries c.drop_top.ensures.moved
    (held_grown c.self.inside.pool.items c.joined_in.new.pool.items c.self.inside.kept c.self.inside.stack.items c.self.inside.globals
    c.self.inside.entries c.joined_in.ensures.grown c.self.invariant))

pub returns-in_ok-joined-in-Some-clause-stack : goal.returns-in_ok-joined-in-Some-clause-stack
returns-in_ok-joined-in-Some-clause-stack c =
    joined_view c.self.inside.pool.items c.joined_in.new.pool.items c.self.inside.stack.items c.replace_top.new.self.items c.at.result
    c.in-Some.a c.in_ok-joined-in-Some.joined c.at.ensures (sym c.in-Some.ensures)
    (c.replace_top.ensures.moved ∙ ap (λ (l : List Held). c.in_ok-joined-in-Some.joined ∷ drop 1 l) c.drop_top.ensures.moved)
    (stack_grown c.self.inside.pool.items c.joined_in.new.pool.items c.self.inside.kept c.self.inside.stack.items c.self.inside.globals
    c.self.inside.entries c.joined_in.ensures.grown c.self.invariant)
    c.in_ok-joined-in-Some.ensures.value
    ∙ ap (λ (h : Holding). joined h.stack) c.self.view_is

pub returns-in_ok-joined-in-Some-clause-globals : goal.returns-in_ok-joined-in-Some-clause-globals
returns-in_ok-joined-in-Some-clause-globals c = globals_seen _ _ _ _ _ _ _ _ c.joined_in.ensures.grown c.self.invariant c.self.view_is

pub returns-in_ok-joined-in-Some-clause-entries : goal.returns-in_ok-joined-in-Some-clause-entries
returns-in_ok-joined-in-Some-clause-entries c = entries_seen _ _ _ _ _ _ _ _ c.joined_in.ensures.grown c.self.invariant c.self.view_is

pub returns-in-None-clause-stack : goal.returns-in-None-clause-stack
returns-in-None-clause-stack c =
    subst (λ (vs : List Value). vs ≡ joined vs) (ap (λ (h : Holding). h.stack) c.self.view_is)
    (sym (none_joined c.self.inside.pool.items c.self.inside.stack.items (sym c.in-None.ensures)))

pub returns-in_ok-joined-in-Some-clause-marks : goal.returns-in_ok-joined-in-Some-clause-marks
returns-in_ok-joined-in-Some-clause-marks c = λ two.
    stack_marked c.self.inside.stack.items c.replace_top.new.self.items c.self.inside.globals c.self.inside.entries (Made ∷ drop 2 (map mark_of c.self.inside.stack.items))
    (joined_marks c.self.inside.stack.items c.replace_top.new.self.items c.in_ok-joined-in-Some.joined
    (c.replace_top.ensures.moved ∙ ap (λ (l : List Held). c.in_ok-joined-in-Some.joined ∷ drop 1 l) c.drop_top.ensures.moved)
    c.in_ok-joined-in-Some.ensures.mark)
    ∙ ap (λ (h : Holding). resulting 2 Made h.marks) c.self.view_is

pub returns-in-None-clause-marks : goal.returns-in-None-clause-marks
returns-in-None-clause-marks c = λ two.
    absurd (omega (
      arith,
      two,
      no_two c.self.inside.stack.items (sym c.in-None.ensures),
      ap (λ (h : Holding). length h.stack) c.self.view_is,
      length-map c.self.inside.stack.items (value_in c.self.inside.pool.items),
    ))
