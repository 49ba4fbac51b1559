-- A loop that may be written has few cases.
use Rattle.std.proofs.Common.{◌≡◌, ◌+◌, ◌≤◌, true, List, length, arith}
use Rattle.std.proofs.lemmas.Bool.Decides.{nat_tests}
use Rattle.loop_templates.specs.declared.candidates.Added.{Added}
use Rattle.loop_templates.specs.declared.candidates.Candidate.{Candidate}
use Rattle.infer_loops.specs.Invariants.{may_be_written}

pub few_cases : (candidate : Candidate) (exits : List Added) → may_be_written candidate exits ≡ true
    → (length candidate.first + length candidate.added) + length exits ≤ 64
few_cases candidate exits may = grind (arith, nat_tests)
