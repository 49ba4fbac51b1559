-- From the candidate in hand on the sequence gives what the whole one does.
use Rattle.loop_templates.specs.Candidates.{HasCases}
use Rattle.infer_loops.specs.Invariants.{found_in}
use Rattle.infer_loops.proofs.Sequences.{ComesTo}
use Rattle.infer_loops.proofs.sequence.found_in.Given as goal

abbrev pub invariant-loop : goal.invariant-loop
invariant-loop l = record {
  comes : ComesTo l.checker.cert l.frame l.one 1041 l.counter l.candidate (found_in l.checker.cert l.frame l.one);
  cases : HasCases l.frame l.candidate;
}
