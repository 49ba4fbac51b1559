-- What the words `infer STYLE` and `infer STYLE COND` come to (docs/COMMANDS.md, "A certificate that is found").
use Rattle.std.specs.Prelude.{◌≡◌, ℕ, ◌≤◌, nat_lt, if◌then◌else◌, List, [], length, codes, Option, None, Some, Result, Ok, Err}
use Rattle.bv_base.specs.Answers.{then_do}
use Rattle.bv_base.specs.Outside.{Listing}
use Rattle.bv_base.specs.Places.{first_place}
use Rattle.bv_base.specs.declared.limits.TheConstants.{STYLE_BYTES}
use Rattle.name_table.specs.declared.style.Style.{Style}
use Rattle.bst_parse.specs.Reading.{style_of}
use Rattle.bst_meaning.specs.Safe.{Safe}
use Rattle.bst_meaning.specs.declared.condition.Cond.{Cond}
use Rattle.cert_format.specs.Spelling.{text_of}
use Rattle.cert_format.specs.Texts.{cert_of, cond_of}
use Rattle.cert_format.specs.UnitSpelling.{cert_lines}
use Rattle.cert_format.specs.declared.cert.Cert.{Cert}
use Rattle.cert_format.specs.declared.fault.CertFault.{CertFault}
use Rattle.cert_check.specs.declared.refusal.Refusal.{Refusal}
use Rattle.command_flow.specs.Checks.{checked}
use Rattle.infer.specs.DefaultCond.{default_cond}
use Rattle.infer.specs.Infer.{infer_of}
use Rattle.infer.specs.declared.unknown.Unknown.{Unknown}
use Rattle.bst_run.specs.declared.outcome.Outcome.{Outcome}
use Rattle.bst_run.specs.Delivery.{Sunk, IsFront}
use Rattle.bst_run.specs.Files.{file_in}
use Rattle.bst_run.specs.Report.{bad_cert, unknown, written}
use Rattle.bst_run.specs.Sources.{HoldsStyle, read_style}
use Rattle.bst_run.specs.Unknowns.{reason_text}

-- the certificate that is found
abbrev pub shown : Result Cert Unknown → Result Cert Outcome
shown (Ok cert) = Ok cert
shown (Err found) = Err (unknown found.place (reason_text found.reason))

-- the rules hold of it, or the first that fails rejects it
abbrev pub unrejected : {A : Type 0} → Result A Refusal → Result (Unit {0}) Outcome
unrejected (Ok left) = Ok tt
unrejected (Err refusal) = Err (unknown refusal.place (codes "Rejected"))

-- the text of a certificate that keeps the limit of such files
abbrev pub short_text : List ℕ → Result (List ℕ) Outcome
short_text text = if nat_lt STYLE_BYTES (length text) then Err (unknown first_place (codes "CertTooLong")) else Ok text

-- a certificate is written, where its text is short and the rules hold of it
abbrev pub printed : Style → Cert → Result Outcome Outcome
printed style cert =
    then_do (short_text (text_of (cert_lines style cert))) (λ text. then_do (unrejected (checked style cert)) (λ held. Ok (written text)))

-- the certificate that is found for a style under a condition
abbrev pub inferred : Style → Cond → Result Outcome Outcome
inferred style admits = then_do (shown (infer_of style admits)) (printed style)

-- the condition that was read, or its first fault
abbrev pub read_cond : Result Cond CertFault → Result Cond Outcome
read_cond (Ok admits) = Ok admits
read_cond (Err fault) = Err (bad_cert fault)

-- the condition in the file of this name
abbrev pub cond_named : Listing → List ℕ → Style → Result Cond Outcome
cond_named told name style = then_do (file_in told STYLE_BYTES name) (λ text. read_cond (cond_of style text))

-- that, and the default one where none is named
abbrev pub cond_for : Listing → Option (List ℕ) → Style → Result Cond Outcome
cond_for told None style = Ok (default_cond style)
cond_for told (Some name) style = cond_named told name style

-- a certificate for a style
abbrev pub inferred_for : Listing → Option (List ℕ) → Style → Result Outcome Outcome
inferred_for told name style = then_do (cond_for told name style) (inferred style)

-- the style is read, and then the condition
abbrev pub infer_outcome : Listing → List ℕ → Option (List ℕ) → Result Outcome Outcome
infer_outcome told style cond =
    then_do (file_in told STYLE_BYTES style) (λ bytes. then_do (read_style (style_of bytes)) (inferred_for told cond))

-- a text is that of a certificate of a style under a condition that isn't changed, of which all rules hold: the style is safe
pub record IsCertifiedBy (style : Style) (admits : Cond) (text : List ℕ) : Type 0 where
  pub cert : Cert
  pub cert_text : cert_of style text ≡ Ok cert
  pub cond_kept : cert.cond ≡ admits
  pub holds : checked style cert ≡ Ok []
  pub safe : Safe style admits
  pub short : length text ≤ STYLE_BYTES

-- an outcome writes such a text
pub record IsWritten (style : Style) (admits : Cond) (outcome : Outcome) : Type 0 where
  pub text : List ℕ
  pub certified : IsCertifiedBy style admits text
  pub printed : outcome ≡ written text

-- the style that the first file holds has such a text under the condition that the second holds, or the default one
pub record IsInferred (told : Listing) (style_name : List ℕ) (cond_name : Option (List ℕ)) : Type 0 where
  pub style : Style
  pub style_held : HoldsStyle told style_name style
  pub admits : Cond
  pub cond_given : cond_for told cond_name style ≡ Ok admits
  pub text : List ℕ
  pub certified : IsCertifiedBy style admits text

-- an outcome writes that text
pub record IsWriting (told : Listing) (style_name : List ℕ) (cond_name : Option (List ℕ)) (outcome : Outcome) : Type 0 where
  pub found : IsInferred told style_name cond_name
  pub printed : outcome ≡ written found.text

-- what was put on standard output is a front of that text
pub record IsSafelyInferred (told : Listing) (style_name : List ℕ) (cond_name : Option (List ℕ)) (out : Sunk) : Type 0 where
  pub found : IsInferred told style_name cond_name
  pub printed : IsFront found.text out
