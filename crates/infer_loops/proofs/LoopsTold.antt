-- The loop of a candidate whose hints may be written is what its definition gives.
use Rattle.std.proofs.Common.{◌≡◌, ℕ, ◌+◌, ◌≤◌, Bool, true, false, cond, ◌&&◌, List, length, Option, None, Some, Result, Ok, Err, IfOk, sym, ap, ◌∙◌, subst, arith}
use Rattle.std.specs.List.{list_all}
use Rattle.std.specs.Global.{Vec}
use Rattle.std.specs.Cmp.Derive.{both_true}
use Rattle.name_table.specs.Sound.{Each}
use Rattle.bst_meaning.specs.declared.condition.Cond.{Cond}
use Rattle.cert_format.specs.CertText.{IsHint}
use Rattle.cert_format.specs.declared.cert.Loop.{Loop}
use Rattle.sym_state.specs.State.{State}
use Rattle.sym_state.specs.declared.hint.Hint.{Hint}
use Rattle.loop_templates.specs.Candidates.{entailing_one, exits_of}
use Rattle.loop_templates.specs.Cases.{Frame}
use Rattle.loop_templates.specs.declared.candidates.Added.{Added}
use Rattle.loop_templates.specs.declared.candidates.Candidate.{Candidate}
use Rattle.cert_check.specs.declared.tours.Tour.{Tour}
use Rattle.cert_check.specs.declared.tours.Turning.{Turning}
use Rattle.infer_loops.specs.Invariants.{ended_states, hints_of, is_hint, loop_of, loop_with, may_be_written}
use Rattle.infer_loops.proofs.HintsWritten.{entailing_written, hints_pass}

-- the loop with these exits, where it is within the limits
abbrev within_limits : Frame → Turning → Candidate → Tour → List Added → Option Loop
within_limits frame one candidate tour exits =
    let hints = hints_of frame candidate exits tour in
    cond (may_be_written candidate exits && list_all is_hint hints) (Some (loop_with frame one candidate exits hints)) None

pub loop_there : (frame : Frame) (one : Turning) (candidate : Candidate) (tour : Tour) (exits : List Added) (hints : List Hint) (found : Loop)
    → exits ≡ exits_of frame (ended_states false tour.ends) → may_be_written candidate exits ≡ true
    → hints ≡ hints_of frame candidate exits tour → Each IsHint hints → found ≡ loop_with frame one candidate exits hints
    → Some found ≡ loop_of frame one candidate tour
loop_there frame one candidate tour exits hints found same may are written is =
    let wanted = hints_of frame candidate exits tour in
    let test : (may_be_written candidate exits && list_all is_hint wanted) ≡ true =
    both_true may (hints_pass wanted (subst (λ (l : List Hint). Each IsHint l) are written)) in
    ap (λ (l : Loop). let some : Option Loop = Some l in some) (is ∙ ap (loop_with frame one candidate exits) are)
    ∙ sym (ap (λ (b : Bool). cond b (Some (loop_with frame one candidate exits wanted)) None) test)
    ∙ ap (within_limits frame one candidate tour) same

pub none_there : (frame : Frame) (one : Turning) (candidate : Candidate) (tour : Tour) (exits : List Added)
    → exits ≡ exits_of frame (ended_states false tour.ends) → may_be_written candidate exits ≡ false → None ≡ loop_of frame one candidate tour
none_there frame one candidate tour exits same may =
    let hints = hints_of frame candidate exits tour in
    sym (ap (λ (b : Bool). cond (b && list_all is_hint hints) (Some (loop_with frame one candidate exits hints)) None) may)
    ∙ ap (within_limits frame one candidate tour) same

-- hints that are what is wanted may be written where that may be
answer_written : {E : Type 0} (wanted : List Hint) (r : Result (Vec Hint) E) → Each IsHint wanted → IfOk r (λ hints. hints.items ≡ wanted)
    → IfOk r (λ hints. Each IsHint hints.items)
answer_written {E} wanted (Ok hints) written is = subst (λ (l : List Hint). Each IsHint l) (sym is) written
answer_written {E} wanted (Err e) written is = tt

-- so may those by which a state at an end entails one of few cases
pub entailing_told : {E : Type 0} (admits : Cond) (state : State) (number : ℕ) (added : List Added) (r : Result (Vec Hint) E) → state.next ≤ 2212483648
    → number + length added ≤ 64 → IfOk r (λ hints. hints.items ≡ entailing_one admits state number added) → IfOk r (λ hints. Each IsHint hints.items)
entailing_told {E} admits state number added r known few is =
    answer_written (entailing_one admits state number added) r
    (entailing_written admits state number added (omega (arith, known)) (omega (arith, few))) is
