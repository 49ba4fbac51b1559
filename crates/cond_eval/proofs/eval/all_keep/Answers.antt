-- All fields are as they are wanted where each is.
use Rattle.std.proofs.Common.{◌∙◌, sym}
use Rattle.cond_eval.specs.Unmet.{keeps}
use Rattle.cond_eval.proofs.Meeting.{all_left, not_all}
use Rattle.cond_eval.proofs.eval.all_keep.Goals as goal

pub returns-then-not-keeps : goal.returns-then-not-keeps
returns-then-not-keeps c =
    not_all (keeps c.args.wanted) c.args.entry.now.fields c.loop-at.at c.in-Some.field c.loop-at.invariant (sym c.in-Some.ensures)
    (sym c.keeps.ensures ∙ c.if-not-keeps.true)

pub loop-at-preserved : goal.loop-at-preserved
loop-at-preserved c =
    all_left (keeps c.args.wanted) c.args.entry.now.fields c.loop-at.at c.in-Some.field c.loop-at.invariant (sym c.in-Some.ensures)
    (sym c.keeps.ensures ∙ c.if-not-keeps.false)
