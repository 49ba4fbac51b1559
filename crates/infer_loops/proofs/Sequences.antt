-- Candidates, one after the other.
use Rattle.std.proofs.Common.{◌≡◌, ℕ, suc, ◌+◌, ◌-◌, ◌<◌, Option, None, Some, Result, IfOk, sym, subst, ◌∙◌, arith}
use Rattle.cert_format.specs.declared.cert.Cert.{Cert}
use Rattle.cert_format.specs.declared.cert.Loop.{Loop}
use Rattle.cert_check.specs.declared.tours.Tour.{Tour}
use Rattle.cert_check.specs.declared.tours.Turning.{Turning}
use Rattle.loop_templates.specs.Cases.{Frame}
use Rattle.loop_templates.specs.declared.candidates.Candidate.{Candidate}
use Rattle.infer_loops.specs.Invariants.{gone_on, next_of, sequence, settled_by, toured, walked_by}
use Rattle.infer_loops.specs.declared.sequence.Step.{Step}
use Rattle.infer_loops.specs.declared.sequence.Step.TheVariants.{Settled, Onward}

-- from a candidate on, behind so many, the sequence gives what the whole one does
abbrev pub ComesTo : Cert → Frame → Turning → ℕ → ℕ → Candidate → Option Loop → Type 0
ComesTo cert frame one most done candidate whole = (n : ℕ) → n + done ≡ most → sequence n cert frame one candidate ≡ whole

-- what a candidate comes to
abbrev pub StepsTo : Cert → Frame → Turning → Candidate → Step → Type 0
StepsTo cert frame one candidate step =
    (later : Candidate → Option Loop) → walked_by frame one candidate later (toured frame.style cert one candidate) ≡ gone_on later step

-- it settles the sequence
pub settled_there : (cert : Cert) (frame : Frame) (one : Turning) (most done : ℕ) (candidate : Candidate) (found whole : Option Loop) → done < most
    → ComesTo cert frame one most done candidate whole → StepsTo cert frame one candidate (Settled found) → found ≡ whole
settled_there cert frame one most done candidate found whole more comes steps =
    let n : ℕ = most - suc done in sym (steps (sequence n cert frame one)) ∙ comes (suc n) (omega (arith, more))

-- or the next one is walked
pub onward_there : (cert : Cert) (frame : Frame) (one : Turning) (most done : ℕ) (candidate next : Candidate) (whole : Option Loop)
    → ComesTo cert frame one most done candidate whole → StepsTo cert frame one candidate (Onward next) → ComesTo cert frame one most (done + 1) next whole
onward_there cert frame one most done candidate next whole comes steps n is =
    sym (steps (sequence n cert frame one)) ∙ comes (suc n) (omega (arith, is))

-- or there is none left
pub none_there : (cert : Cert) (frame : Frame) (one : Turning) (most done : ℕ) (candidate : Candidate) (whole : Option Loop) → done ≡ most
    → ComesTo cert frame one most done candidate whole → None ≡ whole
none_there cert frame one most done candidate whole is comes = comes 0 (omega (arith, is))

-- a candidate that was walked to its end comes to what it settles
pub walked_there : {E : Type 0} (frame : Frame) (one : Turning) (candidate : Candidate) (later : Candidate → Option Loop) (walked : Option Tour) (tour : Tour)
    (r : Result Step E) → walked ≡ Some tour
    → IfOk r (λ step. settled_by frame one candidate tour later (next_of frame candidate tour) ≡ gone_on later step)
    → IfOk r (λ step. walked_by frame one candidate later walked ≡ gone_on later step)
walked_there frame one candidate later walked tour r is comes =
    subst (λ (w : Option Tour). IfOk r (λ step. walked_by frame one candidate later w ≡ gone_on later step)) (sym is) comes
