-- The sequence is settled by a candidate, or the next one is walked.
use Rattle.std.proofs.Common.{◌≡◌, ℕ, Option, ap, subst, sym, ◌∙◌, arith}
use Rattle.std.specs.Option.{IfSome, option_and_then}
use Rattle.loop_templates.specs.Candidates.{HasCases}
use Rattle.loop_templates.specs.declared.candidates.Candidate.{Candidate}
use Rattle.infer_loops.specs.Invariants.{CanGoOn, gone_on, sequence}
use Rattle.infer_loops.proofs.Sequences.{none_there, onward_there, settled_there}
use Rattle.infer_loops.proofs.sequence.found_in.Goals as goal

pub loop-init : goal.loop-init
loop-init c = record {
  comes = λ n is.
      let whole : n ≡ 1041 = omega (arith, is) in
      ap (λ (m : ℕ). sequence m c.args.checker.now.cert c.args.frame.now c.args.one c.in-Some.first) whole
      ∙ ap (option_and_then (sequence 1041 c.args.checker.now.cert c.args.frame.now c.args.one)) (sym c.in-Some.is ∙ c.in_ok-first.ensures.found);
  cases = subst (λ (o : Option Candidate). IfSome o (HasCases c.args.frame.now)) c.in-Some.is c.in_ok-first.ensures.stand;
}

pub returns-in-Settled : goal.returns-in-Settled
returns-in-Settled c =
    settled_there c.args.checker.now.cert c.args.frame.now c.args.one 1041 c.loop.counter c.loop.candidate c.in-Settled.found _ c.loop-test.true
    c.loop.invariant.comes (λ later. c.in_ok-found.ensures.comes later ∙ ap (gone_on later) c.in-Settled.is)

pub loop-preserved : goal.loop-preserved
loop-preserved c = record {
  comes = onward_there c.args.checker.now.cert c.args.frame.now c.args.one 1041 c.loop.counter c.loop.candidate c.in-Onward.next _
      c.loop.invariant.comes (λ later. c.in_ok-found.ensures.comes later ∙ ap (gone_on later) c.in-Onward.is);
  cases = subst (CanGoOn c.args.frame.now) c.in-Onward.is c.in_ok-found.ensures.goes;
}

pub returns : goal.returns
returns c =
    none_there c.args.checker.now.cert c.args.frame.now c.args.one 1041 c.loop.counter c.loop.candidate _
    (omega (arith, c.loop-test.false, c.loop.auto.counter-end)) c.loop.invariant.comes
