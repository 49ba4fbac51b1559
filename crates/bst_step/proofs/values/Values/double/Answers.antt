-- The top is held once more.
use Rattle.std.proofs.Common.{◌≡◌, ◌∙◌, List, [], ap, map, sym}
use Rattle.bst_meaning.specs.declared.value.Value.{Value}
use Rattle.bst_step.specs.declared.held.Held.{Held}
use Rattle.bst_step.specs.Held.{value_in}
use Rattle.bst_step.specs.Stack.{doubled}
use Rattle.bst_step.specs.Values.{Holding}
use Rattle.bst_step.proofs.HeldSteps.{held_pushed, top_within}
use Rattle.bst_step.proofs.ViewSteps.{doubled_view}
use Rattle.bst_step.proofs.MarkSteps.{doubled_marks, none_doubled, stack_marked}
use Rattle.bst_step.specs.Marks.{mark_of}
use Rattle.bst_step.specs.Marks as marks
use Rattle.bst_step.proofs.values.Values.double.Goals as goal

pub invariant_of-self-in-Some : goal.invariant_of-self-in-Some
invariant_of-self-in-Some c =
    held_pushed c.self.inside.pool.items c.self.inside.kept c.in-Some.top c.self.inside.stack.items c.push.new.self.items
    c.self.inside.globals c.self.inside.entries c.in_ok-push-in-Some.ensures.moved
    (top_within c.self.inside.pool.items c.self.inside.kept c.self.inside.stack.items c.self.inside.globals c.self.inside.entries c.in-Some.top
    c.self.invariant c.in-Some.ensures)
    c.self.invariant

pub returns-in_ok-push-in-Some-clause-stack : goal.returns-in_ok-push-in-Some-clause-stack
returns-in_ok-push-in-Some-clause-stack c =
    ap (λ (l : List Held). map (value_in c.self.inside.pool.items) l) c.in_ok-push-in-Some.ensures.moved
    ∙ doubled_view c.self.inside.pool.items c.self.inside.stack.items c.in-Some.top c.in-Some.ensures
    ∙ ap (λ (h : Holding). doubled h.stack) c.self.view_is

pub returns-in-None-clause-stack : goal.returns-in-None-clause-stack
returns-in-None-clause-stack c =
    let none : c.args.self.now.stack ≡ [] =
    sym (ap (λ (h : Holding). h.stack) c.self.view_is) ∙ ap (λ (l : List Held). map (value_in c.self.inside.pool.items) l) c.in-None.ensures in
    none ∙ sym (ap (λ (vs : List Value). doubled vs) none)

pub returns-in_ok-push-in-Some-clause-marks : goal.returns-in_ok-push-in-Some-clause-marks
returns-in_ok-push-in-Some-clause-marks c =
    stack_marked c.self.inside.stack.items c.push.new.self.items c.self.inside.globals c.self.inside.entries (doubled (map mark_of c.self.inside.stack.items))
    (doubled_marks c.self.inside.stack.items c.push.new.self.items c.in-Some.top c.in-Some.ensures c.in_ok-push-in-Some.ensures.moved)
    ∙ ap (λ (h : Holding). marks.doubled h.marks) c.self.view_is

pub returns-in-None-clause-marks : goal.returns-in-None-clause-marks
returns-in-None-clause-marks c =
    sym (ap (λ (h : Holding). h.marks) c.self.view_is)
    ∙ none_doubled c.self.inside.stack.items c.self.inside.globals c.self.inside.entries c.in-None.ensures
    ∙ ap (λ (h : Holding). marks.doubled h.marks) c.self.view_is
