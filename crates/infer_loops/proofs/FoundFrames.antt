-- The frame of the loop that some states enter.
use Rattle.std.proofs.Common.{◌≡◌, List, Option, Result, IfOk, ap, subst, sym, ◌∙◌}
use Rattle.lin_facts.specs.declared.row.Part.{Part}
use Rattle.name_table.specs.declared.names.NameId.{NameId}
use Rattle.name_table.specs.declared.style.Style.{Style}
use Rattle.bst_meaning.specs.declared.condition.Cond.{Cond}
use Rattle.bst_meaning.specs.declared.value.Target.{Target}
use Rattle.cert_format.specs.declared.cert.Cert.{Cert}
use Rattle.cert_format.specs.declared.cert.Loop.{Loop}
use Rattle.sym_state.specs.State.{State}
use Rattle.cert_check.specs.declared.tours.Turning.{Turning}
use Rattle.loop_templates.specs.Cases.{Frame}
use Rattle.loop_templates.specs.Reaching.{Occurring}
use Rattle.infer_loops.specs.Invariants.{found_in, frame_of, frame_over, frame_with, invariant_of, occurring_in, sums_in, turning, written_in}

-- a frame of these parts is that of the loop
pub frame_found : (style s : Style) (admits a : Cond) (one : Turning) (found : Occurring) (writes : List NameId) (sums : List (List Part)) (entering : List State)
    → s ≡ style → a ≡ admits → found ≡ occurring_in s a one → writes ≡ written_in s one found → sums ≡ sums_in s one found
    → frame_with s a one writes sums entering ≡ frame_of style admits one entering
frame_found style s admits a one found writes sums entering same_style same_cond is_found is_written are_sums =
    ap (λ (w : List NameId). frame_with s a one w sums entering) is_written
    ∙ ap (λ (m : List (List Part)). frame_with s a one (written_in s one found) m entering) are_sums
    ∙ ap (λ (f : Occurring). frame_over s a one f entering) is_found
    ∙ ap (λ (x : Style). frame_of x a one entering) same_style
    ∙ ap (λ (x : Cond). frame_of style x one entering) same_cond

-- what is found in it is the loop's invariant
pub found_there : {E : Type 0} (style : Style) (cert : Cert) (test body : Target) (entering : List State) (frame : Frame) (one : Turning)
    (r : Result (Option Loop) E) → one ≡ turning test body entering → frame ≡ frame_of style cert.cond one entering
    → IfOk r (λ found. found ≡ found_in cert frame one) → IfOk r (λ found. found ≡ invariant_of style cert test body entering)
found_there style cert test body entering frame one r is_one is_frame found =
    subst (λ (o : Turning). IfOk r (λ loop. loop ≡ found_in cert (frame_of style cert.cond o entering) o)) is_one
    (subst (λ (f : Frame). IfOk r (λ loop. loop ≡ found_in cert f one)) is_frame found)
