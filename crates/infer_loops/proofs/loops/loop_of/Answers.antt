-- The states at the ends are well made, and the loop is what its definition gives.
use Rattle.std.proofs.Common.{List, false, ap, sym, ◌∙◌}
use Rattle.sym_state.specs.State.{State}
use Rattle.loop_templates.specs.Candidates.{exits_of}
use Rattle.loop_templates.specs.declared.candidates.Added.{Added}
use Rattle.cert_check.specs.declared.tours.Ended.{Ended}
use Rattle.infer_loops.specs.Invariants.{ended_states, hints_of, may_be_written}
use Rattle.infer_loops.proofs.EndStates.{ends_made}
use Rattle.infer_loops.proofs.LoopsTold.{loop_there, none_there}
use Rattle.infer_loops.proofs.loops.loop_of.Goals as goal

pub exits_of-requires-clause-left : goal.exits_of-requires-clause-left
exits_of-requires-clause-left c =
    ends_made c.args.frame.now.style false c.args.tour.ends c.as_slice-2.result.now
    (c.as_slice-2.ensures.value ∙ c.in_ok-left.ensures ∙ ap (λ (ends : List Ended). ended_states false ends) c.as_slice.ensures)
    c.requires.ends

pub returns-in_ok-loop_with : goal.returns-in_ok-loop_with
returns-in_ok-loop_with c =
    loop_there c.args.frame.now c.args.one c.args.candidate c.args.tour _ _ _
    (c.in_ok-exits.ensures.exits ∙ ap (λ (states : List State). exits_of c.args.frame.now states)
    (c.as_slice-2.ensures.value ∙ c.in_ok-left.ensures ∙ ap (λ (ends : List Ended). ended_states false ends) c.as_slice.ensures))
    (ap (λ (exits : List Added). may_be_written c.args.candidate exits) (sym c.as_slice-shown.ensures.value) ∙ sym c.may_be_written.ensures ∙ c.if-may_be_written.true)
    (c.in_ok-hints.ensures.hints ∙ ap (λ (exits : List Added). hints_of c.args.frame.now c.args.candidate exits c.args.tour) c.as_slice-shown.ensures.value)
    c.in_ok-hints.ensures.written c.in_ok-loop_with.ensures

pub returns-else-may_be_written : goal.returns-else-may_be_written
returns-else-may_be_written c =
    none_there c.args.frame.now c.args.one c.args.candidate c.args.tour _
    (c.in_ok-exits.ensures.exits ∙ ap (λ (states : List State). exits_of c.args.frame.now states)
    (c.as_slice-2.ensures.value ∙ c.in_ok-left.ensures ∙ ap (λ (ends : List Ended). ended_states false ends) c.as_slice.ensures))
    (ap (λ (exits : List Added). may_be_written c.args.candidate exits) (sym c.as_slice-shown.ensures.value) ∙ sym c.may_be_written.ensures ∙ c.if-may_be_written.false)
