-- The pool grows by the bytes, and a value that has them is pushed.
use Rattle.std.proofs.Common.{◌∙◌, List, ◌∷◌, ap, arith, drop, length, map}
use Rattle.std.proofs.lemmas.List.{length-map}
use Rattle.bst_meaning.specs.declared.value.Value.{Value}
use Rattle.bst_meaning.specs.declared.value.Value.TheVariants.{Str}
use Rattle.bst_step.specs.declared.held.Held.{Held}
use Rattle.bst_step.specs.Held.{value_in}
use Rattle.bst_step.specs.Values.{Holding}
use Rattle.bst_step.proofs.HeldSteps.{entries_seen, globals_seen, held_grown, held_replaced, stack_grown}
use Rattle.bst_step.proofs.ViewSteps.{dropped_view}
use Rattle.bst_step.specs.Marks.{Made, mark_of, resulting}
use Rattle.bst_step.proofs.MarkSteps.{put_marks, stack_marked}
use Rattle.bst_step.proofs.values.Values.make.Goals as goal

pub invariant_of-self : goal.invariant_of-self
invariant_of-self c =
    held_grown c.self.inside.pool.items c.made_in.new.pool.items c.self.inside.kept c.self.inside.stack.items c.self.inside.globals
    c.self.inside.entries c.made_in.ensures.grown c.self.invariant

pub returns-in_err-made-clause-globals : goal.returns-in_err-made-clause-globals
returns-in_err-made-clause-globals c = globals_seen _ _ _ _ _ _ _ _ c.made_in.ensures.grown c.self.invariant c.self.view_is

pub returns-in_err-made-clause-entries : goal.returns-in_err-made-clause-entries
returns-in_err-made-clause-entries c = entries_seen _ _ _ _ _ _ _ _ c.made_in.ensures.grown c.self.invariant c.self.view_is

pub put-requires : goal.put-requires
put-requires c = (
  omega arith,
  (
    c.requires.some,
    omega (arith, c.requires.enough, ap (λ (h : Holding). length h.stack) c.self.view_is, length-map c.self.inside.stack.items (value_in c.self.inside.pool.items)),
  ),
)

pub invariant_of-self-2 : goal.invariant_of-self-2
invariant_of-self-2 c =
    held_replaced c.made_in.new.pool.items c.self.inside.kept c.args.taken c.in_ok-made.made c.self.inside.stack.items c.put.new.self.items
    c.self.inside.globals c.self.inside.entries c.put.ensures.moved c.in_ok-made.ensures.within
    (held_grown c.self.inside.pool.items c.made_in.new.pool.items c.self.inside.kept c.self.inside.stack.items c.self.inside.globals
    c.self.inside.entries c.made_in.ensures.grown c.self.invariant)

pub returns-clause-stack : goal.returns-clause-stack
returns-clause-stack c =
    ap (λ (l : List Held). map (value_in c.made_in.new.pool.items) l) c.put.ensures.moved
    ∙ ap (λ (v : Value). v ∷ map (value_in c.made_in.new.pool.items) (drop c.args.taken c.self.inside.stack.items)) c.in_ok-made.ensures.value
    ∙ ap (λ (l : List Value). Str c.args.bytes.now ∷ l)
    (dropped_view c.made_in.new.pool.items c.args.taken c.self.inside.stack.items
    ∙ ap (λ (l : List Value). drop c.args.taken l)
    (stack_grown c.self.inside.pool.items c.made_in.new.pool.items c.self.inside.kept c.self.inside.stack.items c.self.inside.globals
    c.self.inside.entries c.made_in.ensures.grown c.self.invariant
    ∙ ap (λ (h : Holding). h.stack) c.self.view_is))

pub returns-clause-globals : goal.returns-clause-globals
returns-clause-globals c = globals_seen _ _ _ _ _ _ _ _ c.made_in.ensures.grown c.self.invariant c.self.view_is

pub returns-clause-entries : goal.returns-clause-entries
returns-clause-entries c = entries_seen _ _ _ _ _ _ _ _ c.made_in.ensures.grown c.self.invariant c.self.view_is

pub returns-clause-marks : goal.returns-clause-marks
returns-clause-marks c =
    stack_marked c.self.inside.stack.items c.put.new.self.items c.self.inside.globals c.self.inside.entries (Made ∷ drop c.args.taken (map mark_of c.self.inside.stack.items))
    (put_marks c.args.taken c.self.inside.stack.items c.put.new.self.items c.in_ok-made.made Made c.put.ensures.moved c.in_ok-made.ensures.mark)
    ∙ ap (λ (h : Holding). resulting c.args.taken Made h.marks) c.self.view_is
