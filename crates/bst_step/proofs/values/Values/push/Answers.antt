-- A value that is lent is held on top.
use Rattle.std.proofs.Common.{◌∙◌, ◌∷◌, List, ap, map}
use Rattle.bst_meaning.specs.declared.value.Value.{Value}
use Rattle.bst_step.specs.declared.held.Held.{Held}
use Rattle.bst_step.specs.Held.{value_in, value_of}
use Rattle.bst_step.specs.Values.{Holding}
use Rattle.bst_step.proofs.HeldSteps.{lent_pushed}
use Rattle.bst_step.specs.Marks.{lent_mark, mark_of, pushed}
use Rattle.bst_step.proofs.MarkSteps.{put_marks, stack_marked}
use Rattle.bst_step.proofs.values.Values.push.Goals as goal

pub invariant_of-self-2 : goal.invariant_of-self-2
invariant_of-self-2 c =
    lent_pushed c.self.inside.pool.items c.self.inside.kept c.held.result c.self.inside.stack.items c.push.new.self.items
    c.self.inside.globals c.self.inside.entries c.in_ok-push.ensures.moved c.held.ensures.within c.self.invariant

pub returns-clause-stack : goal.returns-clause-stack
returns-clause-stack c =
    ap (λ (hs : List Held). map (value_in c.self.inside.pool.items) hs) c.in_ok-push.ensures.moved
    ∙ ap (λ (v : Value). v ∷ map (value_in c.self.inside.pool.items) c.self.inside.stack.items) (c.held.ensures.value c.self.inside.pool.items)
    ∙ ap (λ (h : Holding). value_of c.args.value ∷ h.stack) c.self.view_is

pub returns-clause-marks : goal.returns-clause-marks
returns-clause-marks c =
    stack_marked c.self.inside.stack.items c.push.new.self.items c.self.inside.globals c.self.inside.entries (lent_mark (value_of c.args.value) ∷ map mark_of c.self.inside.stack.items)
    (put_marks 0 c.self.inside.stack.items c.push.new.self.items c.held.result (lent_mark (value_of c.args.value)) c.in_ok-push.ensures.moved c.held.ensures.mark)
    ∙ ap (λ (h : Holding). pushed (lent_mark (value_of c.args.value)) h.marks) c.self.view_is
