-- The topmost values go, and one that is lent is held on top.
use Rattle.std.proofs.Common.{◌∙◌, ◌∷◌, List, ap, arith, drop, length, map}
use Rattle.std.proofs.lemmas.List.{length-map}
use Rattle.bst_meaning.specs.declared.value.Value.{Value}
use Rattle.bst_step.specs.declared.held.Held.{Held}
use Rattle.bst_step.specs.Held.{value_in, value_of}
use Rattle.bst_step.specs.Values.{Holding}
use Rattle.bst_step.proofs.HeldSteps.{held_replaced}
use Rattle.bst_step.proofs.ViewSteps.{dropped_view}
use Rattle.bst_step.specs.Marks.{lent_mark, mark_of, resulting}
use Rattle.bst_step.proofs.MarkSteps.{put_marks, stack_marked}
use Rattle.bst_step.proofs.values.Values.put.Goals as goal

pub put-requires : goal.put-requires
put-requires c = (
  omega arith,
  (
    c.requires.some,
    omega (arith, c.requires.enough, ap (λ (h : Holding). length h.stack) c.self.view_is, length-map c.self.inside.stack.items (value_in c.self.inside.pool.items)),
  ),
)

pub invariant_of-self : goal.invariant_of-self
invariant_of-self c =
    held_replaced c.self.inside.pool.items c.self.inside.kept c.args.taken c.held.result c.self.inside.stack.items c.put.new.self.items
    c.self.inside.globals c.self.inside.entries c.put.ensures.moved (omega (arith, c.held.ensures.within)) c.self.invariant

pub returns-clause-stack : goal.returns-clause-stack
returns-clause-stack c =
    ap (λ (hs : List Held). map (value_in c.self.inside.pool.items) hs) c.put.ensures.moved
    ∙ ap (λ (v : Value). v ∷ map (value_in c.self.inside.pool.items) (drop c.args.taken c.self.inside.stack.items)) (c.held.ensures.value c.self.inside.pool.items)
    ∙ ap (λ (l : List Value). value_of c.args.value ∷ l) (dropped_view c.self.inside.pool.items c.args.taken c.self.inside.stack.items)
    ∙ ap (λ (h : Holding). value_of c.args.value ∷ drop c.args.taken h.stack) c.self.view_is

pub returns-clause-marks : goal.returns-clause-marks
returns-clause-marks c =
    stack_marked c.self.inside.stack.items c.put.new.self.items c.self.inside.globals c.self.inside.entries (lent_mark (value_of c.args.value) ∷ drop c.args.taken (map mark_of c.self.inside.stack.items))
    (put_marks c.args.taken c.self.inside.stack.items c.put.new.self.items c.held.result (lent_mark (value_of c.args.value)) c.put.ensures.moved c.held.ensures.mark)
    ∙ ap (λ (h : Holding). resulting c.args.taken (lent_mark (value_of c.args.value)) h.marks) c.self.view_is
