use Rattle.std.proofs.Common.{◌∙◌, subst, sym}
use Rattle.bst_meaning.specs.Safe.{Safe}
use Rattle.bst_run.specs.declared.outcome.Outcome.{Outcome}
use Rattle.bst_run.specs.Under.{FaultsOutside}
use Rattle.bst_run.proofs.UnderLemmas.{asked_under, fault_outside, told_front}
use Rattle.bst_run.proofs.under.under.Goals as goal

-- the run's log stands behind what is told of the condition
pub returns-clause-exact : goal.returns-clause-exact
returns-clause-exact c =
    c.asked.ensures ∙ asked_under c.args.steps c.args.cond.now c.args.sources c.in_ok-style.style c.in_ok-style.reading c.in_ok-style.found c.from_vec.result
    c.in_ok-style.ensures.style c.in_ok-style.ensures.found c.in_ok-style.ensures.reading (c.from_vec.ensures ∙ c.in_ok-front.ensures.exact)

-- an execution error comes outside the condition
pub returns-clause-outside : goal.returns-clause-outside
returns-clause-outside c =
    subst (λ (o : Outcome). FaultsOutside o)
    (sym (c.asked.ensures ∙ told_front c.args.steps c.in_ok-style.style c.args.cond.now c.in_ok-style.reading c.in_ok-style.found c.from_vec.result
    (c.from_vec.ensures ∙ c.in_ok-front.ensures.exact)))
    (fault_outside c.args.steps c.in_ok-style.style c.args.cond.now c.in_ok-style.reading c.in_ok-style.found
    (subst (λ style. Safe style c.args.cond.now) (sym c.in_ok-style.ensures.style) c.requires.safe)
    c.in_ok-style.ensures.fits c.meeting_text.ensures.meets)
