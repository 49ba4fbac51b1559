-- What the variable holds is the integer over any pool, and has no mark.
use Rattle.std.proofs.Common.{ap, sym}
use Rattle.bst_step.specs.Values.{Holding}
use Rattle.bst_step.proofs.MarkSteps.{integer_marked}
use Rattle.bst_step.proofs.ValueSteps.{integer_held}
use Rattle.bst_step.proofs.values.Values.global_integer.Goals as goal

pub returns-in-Some-clause-value : goal.returns-in-Some-clause-value
returns-in-Some-clause-value c =
    integer_held c.self.inside.pool.items c.args.name.0 c.self.inside.globals c.args.self.now.globals c.in-Some.held c.integer.result
    (ap (λ (h : Holding). h.globals) (sym c.self.view_is)) c.in-Some.ensures (c.integer.ensures.value c.self.inside.pool.items)

pub returns-in-Some-clause-mark : goal.returns-in-Some-clause-mark
returns-in-Some-clause-mark c =
    integer_marked c.args.name.0 c.self.inside.globals c.args.self.now.marks.globals c.in-Some.held c.integer.result
    (ap (λ (h : Holding). h.marks.globals) (sym c.self.view_is)) c.in-Some.ensures c.integer.ensures.mark
