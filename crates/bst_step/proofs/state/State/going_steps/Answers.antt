-- The innermost frame has moved on, and what is left of the step is the step.
use Rattle.std.proofs.Common.{◌≡◌, ◌∙◌, arith, map, subst}
use Rattle.std.specs.Result.{IfOk}
use Rattle.bst_meaning.specs.Config.{Config}
use Rattle.bst_meaning.specs.Machine as rule
use Rattle.bst_step.specs.Frames.{frame_of, with_next}
use Rattle.bst_step.specs.MarkRules as rules
use Rattle.bst_step.specs.Marks.{Marks}
use Rattle.bst_step.specs.State.{config_of}
use Rattle.bst_step.proofs.state.State.going_steps.Goals as goal

pub returns-clause-moved : goal.returns-clause-moved
returns-clause-moved c =
    subst (λ (d : Config). IfOk c.steps_left.result (λ more. config_of c.steps_left.new.self ≡ rule.steps c.args.style.now more d))
    (c.next-next.ensures.moved c.args.style.now (config_of c.args.self.now)) c.steps_left.ensures.moved

pub returns-clause-marks : goal.returns-clause-marks
returns-clause-marks c =
    let moved : Config = record (config_of c.args.self.now) { frames = map frame_of c.next-next.new.self.items } in
    subst (λ (d : Config). IfOk c.steps_left.result (λ more. c.steps_left.new.self.values.marks ≡ rules.marks_after_steps c.args.style.now more d
    (rules.going_marks c.args.style.now (map frame_of c.args.self.now.frames.items) (config_of c.args.self.now) c.args.self.now.values.marks)))
    (c.next-next.ensures.moved c.args.style.now (config_of c.args.self.now))
    (subst (λ (m : Marks). IfOk c.steps_left.result (λ more. c.steps_left.new.self.values.marks
    ≡ rules.marks_after_steps c.args.style.now more (with_next c.args.style.now c.next-next.result moved) m))
    (c.next-next.ensures.marks c.args.style.now (config_of c.args.self.now) c.args.self.now.values.marks) c.steps_left.ensures.marks)

pub returns-clause-fits : goal.returns-clause-fits
returns-clause-fits c = λ takes room.
    c.steps_left.ensures.fits (c.next-next.ensures.takes c.args.style.now (config_of c.args.self.now) ∙ takes)
    (omega (arith, room.0, c.next-next.ensures.room), room.1)
