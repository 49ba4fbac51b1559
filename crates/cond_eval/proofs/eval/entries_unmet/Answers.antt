-- An entry that keeps all lines is passed over, and another is the first that doesn't.
use Rattle.std.proofs.Common.{sym}
use Rattle.cond_eval.proofs.Meeting.{unmet_here, unmet_later}
use Rattle.cond_eval.proofs.eval.entries_unmet.Goals as goal

pub returns-in-Some-entry_unmet : goal.returns-in-Some-entry_unmet
returns-in-Some-entry_unmet c =
    unmet_here c.args.style.now c.args.cond.now c.args.list.now.entries c.loop-at.at c.in-Some.entry c.loop-at.invariant (sym c.in-Some.ensures)
    c.in-Some-entry_unmet.line c.in-Some-entry_unmet.ensures

pub loop-at-preserved : goal.loop-at-preserved
loop-at-preserved c =
    unmet_later c.args.style.now c.args.cond.now c.args.list.now.entries c.loop-at.at c.in-Some.entry c.loop-at.invariant (sym c.in-Some.ensures)
    c.in_default-entry_unmet.ensures
