-- From the style and the condition to the certificate that is found.
use Rattle.std.proofs.Common.{◌≡◌, ◌↔◌, ℕ, List, Option, None, Some, Result, Ok, Err, subst}
use Rattle.std.specs.Prelude.{IfSome, IfOk, IfErr}
use Rattle.bv_base.specs.Outside.{Listing}
use Rattle.bv_base.specs.declared.files.Files.{Ghosts}
use Rattle.bv_base.specs.declared.limits.TheConstants.{STYLE_BYTES}
use Rattle.name_table.specs.declared.style.Style.{Style}
use Rattle.bst_parse.specs.Reading.{style_of}
use Rattle.bst_meaning.specs.declared.condition.Cond.{Cond}
use Rattle.cert_format.specs.CertText.{CertText, IsCert}
use Rattle.cert_format.specs.Spelling.{text_of}
use Rattle.cert_format.specs.Texts.{cert_of}
use Rattle.cert_format.specs.UnitSpelling.{cert_lines}
use Rattle.cert_format.specs.declared.cert.Cert.{Cert}
use Rattle.bst_run.specs.declared.outcome.Outcome.{Outcome}
use Rattle.bst_run.specs.declared.stop.Stop.{Stop}
use Rattle.bst_run.specs.Files.{file_in}
use Rattle.bst_run.specs.Inferred.{IsWriting, IsWritten, cond_for, infer_outcome, inferred, inferred_for}
use Rattle.bst_run.specs.Reads.{Reads}
use Rattle.bst_run.specs.Sources.{read_style}
use Rattle.bst_run.specs.Stops.{Gives, Decides, IsInside}
use Rattle.bst_run.proofs.ReadsLemmas.{reads_next, reads_nothing, reads_stopped}
use Rattle.bst_run.proofs.StyleLemmas.{holds_style, style_reads}

-- the style and the condition are read in turn, and then a certificate is looked for
pub infer_reads : {F : Type 0} (see : Ghosts F) (old mid new : F) (style_name : List ℕ) (cond_name : Option (List ℕ)) (bytes bytes' : List ℕ)
    (style : Style) (admits : Cond) (result : Result Outcome Stop)
    → bytes' ≡ bytes
    → Reads {F = F} {A = List ℕ} see old mid (λ t. file_in t STYLE_BYTES style_name) (Ok bytes) → Decides {A = Style} (read_style (style_of bytes')) (Ok style)
    → Reads {F = F} {A = Cond} see mid new (λ t. cond_for t cond_name style) (Ok admits)
    → Decides {A = Outcome} (inferred style admits) result → IfErr result IsInside
    → Reads {F = F} {A = Outcome} see old new (λ t. infer_outcome t style_name cond_name) result
infer_reads see old mid new style_name cond_name bytes bytes' style admits result e style_file read cond_file decides inside =
    style_reads {A = Outcome} see old mid new style_name bytes bytes' style (λ t. inferred_for t cond_name) result e style_file read
    (reads_next see mid new new (λ t. cond_for t cond_name style) admits (λ t. inferred style) result cond_file
    (reads_nothing see new (inferred style admits) result decides inside))

-- the style is read, and the condition isn't
pub cond_unread : {F : Type 0} (see : Ghosts F) (old mid new : F) (style_name : List ℕ) (cond_name : Option (List ℕ)) (bytes bytes' : List ℕ)
    (style : Style) (stop : Stop)
    → bytes' ≡ bytes
    → Reads {F = F} {A = List ℕ} see old mid (λ t. file_in t STYLE_BYTES style_name) (Ok bytes) → Decides {A = Style} (read_style (style_of bytes')) (Ok style)
    → Reads {F = F} {A = Cond} see mid new (λ t. cond_for t cond_name style) (Err stop)
    → Reads {F = F} {A = Outcome} see old new (λ t. infer_outcome t style_name cond_name) (Err stop)
cond_unread see old mid new style_name cond_name bytes bytes' style stop e style_file read cond_file =
    style_reads {A = Outcome} see old mid new style_name bytes bytes' style (λ t. inferred_for t cond_name) (Err stop) e style_file read
    (reads_stopped {A = Cond} {B = Outcome} see mid new (λ t. cond_for t cond_name style) (λ t. inferred style) stop cond_file)

-- what is written of the style and the condition that were read is written of the files
pub writes : (told told' : Option Listing) (style_name : List ℕ) (cond_name : Option (List ℕ)) (bytes bytes' : List ℕ)
    (style : Style) (admits : Cond) (result : Result Outcome Stop)
    → told' ≡ told → bytes' ≡ bytes
    → Gives {A = List ℕ} told (λ t. file_in t STYLE_BYTES style_name) (Ok bytes) → Decides {A = Style} (read_style (style_of bytes')) (Ok style)
    → Gives {A = Cond} told' (λ t. cond_for t cond_name style) (Ok admits) → IfOk result (IsWritten style admits)
    → IfOk result (λ outcome. IfSome told (λ t. IsWriting t style_name cond_name outcome))
writes told told' style_name cond_name bytes bytes' style admits (Err stop) same e style_file read cond_file written = tt
writes None told' style_name cond_name bytes bytes' style admits (Ok outcome) same e style_file read cond_file written = tt
writes (Some t) told' style_name cond_name bytes bytes' style admits (Ok outcome) same e style_file read cond_file written = record {
  found = record {
    style = style;
    style_held = holds_style t style_name bytes bytes' style e style_file read;
    admits = admits;
    cond_given = subst (λ (o : Option Listing). Gives {A = Cond} o (λ u. cond_for u cond_name style) (Ok admits)) same cond_file;
    text = written.text;
    certified = written.certified;
  };
  printed = written.printed;
}

-- a certificate that is written under its own condition is written under the one that it has
pub written_under : (style : Style) (own admits : Cond) (result : Result Outcome Stop) → own ≡ admits
    → IfOk result (IsWritten style own) → IfOk result (IsWritten style admits)
written_under style own admits result same written = subst (λ (c : Cond). IfOk result (IsWritten style c)) same written

-- what is printed of a certificate is read as it
pub printed_text : (style : Style) (text : List ℕ) (cert : Cert) → (cert_of style text ≡ Ok cert) ↔ CertText style text cert → IsCert style cert
    → text ≡ text_of (cert_lines style cert) → cert_of style text ≡ Ok cert
printed_text style text cert law kept spelled = law.1 (record { kept = kept; spelled = spelled })
