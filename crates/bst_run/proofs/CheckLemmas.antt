-- From the two files to the decision.
use Rattle.std.proofs.Common.{◌≡◌, ℕ, List, Option, None, Some, Result, Ok, Err, subst}
use Rattle.std.specs.Prelude.{IfSome, IfOk, IfErr}
use Rattle.std.specs.FinMap.{get}
use Rattle.bv_base.specs.Outside.{Listing}
use Rattle.bv_base.specs.declared.files.Files.{Ghosts}
use Rattle.bv_base.specs.declared.limits.TheConstants.{STYLE_BYTES}
use Rattle.name_table.specs.declared.style.Style.{Style}
use Rattle.bst_parse.specs.Reading.{style_of}
use Rattle.cert_format.specs.Texts.{cert_of}
use Rattle.cert_format.specs.declared.cert.Cert.{Cert}
use Rattle.bst_run.specs.declared.outcome.Outcome.{Outcome}
use Rattle.bst_run.specs.declared.stop.Stop.{Stop}
use Rattle.bst_run.specs.Files.{file_in}
use Rattle.bst_run.specs.Reads.{Reads}
use Rattle.bst_run.specs.Sources.{read_style}
use Rattle.bst_run.specs.Stops.{Gives, Decides, IsInside}
use Rattle.bst_run.specs.Top.{after_style, check_outcome, text_judged, IsAcceptance, IsTextJudgedWell, IsJudgedWell}
use Rattle.bst_run.proofs.ReadsLemmas.{reads_next, reads_nothing}
use Rattle.bst_run.proofs.StyleLemmas.{holds_style, style_reads, there}

-- the files are read in turn
pub check_reads : {F : Type 0} (see : Ghosts F) (old mid new : F) (style_name cert_name bytes bytes' text text' : List ℕ) (style : Style) (result : Result Outcome Stop)
    → bytes' ≡ bytes → text' ≡ text
    → Reads {F = F} {A = List ℕ} see old mid (λ t. file_in t STYLE_BYTES style_name) (Ok bytes) → Decides {A = Style} (read_style (style_of bytes')) (Ok style)
    → Reads {F = F} {A = List ℕ} see mid new (λ t. file_in t STYLE_BYTES cert_name) (Ok text)
    → Decides {A = Outcome} (text_judged style text') result → IfErr result IsInside
    → Reads {F = F} {A = Outcome} see old new (λ t. check_outcome t style_name cert_name) result
check_reads see old mid new style_name cert_name bytes bytes' text text' style result e f style_file read cert_file decides inside =
    style_reads {A = Outcome} see old mid new style_name bytes bytes' style (λ t. after_style t cert_name) result e style_file read
    (reads_next see mid new new (λ t. file_in t STYLE_BYTES cert_name) text (λ t. text_judged style) result cert_file
    (reads_nothing see new (text_judged style text) result
    (subst (λ (x : List ℕ). Decides {A = Outcome} (text_judged style x) result) f decides) inside))

-- a text that is judged well is accepted
pub accepts : (told told' : Option Listing) (style_name cert_name bytes bytes' text text' : List ℕ) (style : Style) (result : Result Outcome Stop)
    → told' ≡ told → bytes' ≡ bytes → text' ≡ text
    → Gives {A = List ℕ} told (λ t. file_in t STYLE_BYTES style_name) (Ok bytes) → Decides {A = Style} (read_style (style_of bytes')) (Ok style)
    → Gives {A = List ℕ} told' (λ t. file_in t STYLE_BYTES cert_name) (Ok text)
    → IfOk result (IsTextJudgedWell style text')
    → IfOk result (λ outcome. IfSome told (λ t. IsAcceptance t style_name cert_name outcome))
accepts told told' style_name cert_name bytes bytes' text text' style (Err stop) same e f style_file read cert_file well = tt
accepts None told' style_name cert_name bytes bytes' text text' style (Ok outcome) same e f style_file read cert_file well = tt
accepts (Some t) told' style_name cert_name bytes bytes' text text' style (Ok outcome) same e f style_file read cert_file well =
    let there_now : Gives {A = List ℕ} (Some t) (λ u. file_in u STYLE_BYTES cert_name) (Ok text) =
    subst (λ (o : Option Listing). Gives {A = List ℕ} o (λ u. file_in u STYLE_BYTES cert_name) (Ok text)) same cert_file in
    record {
      found = record {
        style = style;
        style_held = holds_style t style_name bytes bytes' style e style_file read;
        text = text;
        cert_file = there cert_name text (get t cert_name) there_now;
        cert = well.cert;
        cert_read = subst (λ (x : List ℕ). cert_of style x ≡ Ok well.cert) f well.cert_read;
        holds = well.judged_well.holds;
        safe = well.judged_well.safe;
      };
      printed = well.judged_well.printed;
    }

-- a text is judged well where the certificate that it is was
pub text_judged_well : (style : Style) (text : List ℕ) (cert : Cert) (result : Result Outcome Stop) → cert_of style text ≡ Ok cert
    → IfOk result (IsJudgedWell style cert) → IfOk result (IsTextJudgedWell style text)
text_judged_well style text cert (Ok outcome) is well = record { cert = cert; cert_read = is; judged_well = well }
text_judged_well style text cert (Err stop) is well = tt
