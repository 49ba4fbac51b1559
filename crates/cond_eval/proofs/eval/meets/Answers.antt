-- A list meets a condition exactly where no line of it is unmet.
use Rattle.std.proofs.Common.{sym, ◌∙◌}
use Rattle.cond_eval.proofs.Meeting.{none_met, none_unmet}
use Rattle.cond_eval.proofs.eval.meets.Goals as goal

pub returns-clause-meets : goal.returns-clause-meets
returns-clause-meets c = (
  λ none. none_unmet c.args.style.now c.args.cond.now c.args.list.now (sym c.first_unmet.ensures ∙ none),
  λ meets. c.first_unmet.ensures ∙ none_met c.args.style.now c.args.cond.now c.args.list.now meets,
)
