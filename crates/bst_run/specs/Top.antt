-- The whole command line (docs/COMMANDS.md): from the words and the files to the answer, and what an answer means.
use Rattle.std.specs.Prelude.{◌≡◌, ◌≢◌, ℕ, ◌⊎◌, true, false, List, [], ◌++◌, codes, Option, Some, IfSome, IsSomeAnd, Result, Ok, Err}
use Rattle.std.specs.FinMap.{get}
use Rattle.bv_base.specs.Answers.{then_do}
use Rattle.bv_base.specs.Outside.{Listing, Rose, last_begun}
use Rattle.bv_base.specs.declared.files.Begun.{Begun}
use Rattle.bv_base.specs.declared.files.Files.{Ghosts}
use Rattle.bv_base.specs.declared.limits.TheConstants.{STYLE_BYTES}
use Rattle.bv_base.specs.declared.status.Status.{Status}
use Rattle.bv_base.specs.declared.status.Status.TheVariants as status
use Rattle.name_table.specs.declared.style.Style.{Style}
use Rattle.bst_parse.specs.Reading.{style_of}
use Rattle.bst_meaning.specs.Safe.{Safe}
use Rattle.cert_format.specs.Texts.{cert_of}
use Rattle.cert_format.specs.declared.cert.Cert.{Cert}
use Rattle.command_flow.specs.Checks.{checked}
use Rattle.bst_run.specs.declared.outcome.Outcome.{Outcome}
use Rattle.bst_run.specs.Delivery.{Sunk, IsFront, IsDelivered}
use Rattle.bst_run.specs.Files.{file_in}
use Rattle.bst_run.specs.Forms.{Form, Check, Infer, Run, RunUnder, Gen}
use Rattle.bst_run.specs.Generated.{IsGenerated, IsGenerating, IsSafelyGenerated, gen_outcome}
use Rattle.bst_run.specs.Inferred.{IsInferred, IsSafelyInferred, IsWriting, infer_outcome}
use Rattle.bst_run.specs.Ran.{run_outcome}
use Rattle.bst_run.specs.Report.{absent, accepted, holding, unread}
use Rattle.bst_run.specs.Sources.{HoldsStyle, read_cert, read_style}
use Rattle.bst_run.specs.Stops.{IsDecided}
use Rattle.bst_run.specs.Under.{FaultsOutside, under_outcome}

-- the rules decide a style and a certificate
abbrev pub judged : Style → Cert → Result Outcome Outcome
judged style cert = then_do (holding (checked style cert)) (λ held. Ok (accepted style cert.cond))

-- a certificate's text is read for a style, and decided
abbrev pub text_judged : Style → List ℕ → Result Outcome Outcome
text_judged style text = then_do (read_cert (cert_of style text)) (judged style)

-- the style is read, and then the certificate
abbrev pub after_style : Listing → List ℕ → Style → Result Outcome Outcome
after_style told cert style = then_do (file_in told STYLE_BYTES cert) (text_judged style)

-- the words `check STYLE CERT`
abbrev pub check_outcome : Listing → List ℕ → List ℕ → Result Outcome Outcome
check_outcome told style cert =
    then_do (file_in told STYLE_BYTES style) (λ bytes. then_do (read_style (style_of bytes)) (after_style told cert))

-- an outcome that stops a command is told too
abbrev pub ended : Result Outcome Outcome → Outcome
ended (Ok outcome) = outcome
ended (Err outcome) = outcome

-- the outcome of the words of a form, over these files
abbrev pub outcome_in : Listing → Form → Outcome
outcome_in told (Check style cert) = ended (check_outcome told style cert)
outcome_in told (Infer style cond) = ended (infer_outcome told style cond)
outcome_in told (Run aux steps) = ended (run_outcome told aux steps)
outcome_in told (RunUnder aux steps cert) = ended (under_outcome told aux steps cert)
outcome_in told (Gen seed count) = ended (gen_outcome seed count)

-- the rules hold of a style and a certificate: the style is safe under its condition, which the outcome prints
pub record IsJudgedWell (style : Style) (cert : Cert) (outcome : Outcome) : Type 0 where
  pub holds : checked style cert ≡ Ok []
  pub safe : Safe style cert.cond
  pub printed : outcome ≡ accepted style cert.cond

-- they hold of the certificate that a text is
pub record IsTextJudgedWell (style : Style) (text : List ℕ) (outcome : Outcome) : Type 0 where
  pub cert : Cert
  pub cert_read : cert_of style text ≡ Ok cert
  pub judged_well : IsJudgedWell style cert outcome

-- two files for which the rules hold: the first holds a style and the second a certificate, under whose condition the style is safe
pub record IsAccepted (told : Listing) (style_name cert_name : List ℕ) : Type 0 where
  pub style : Style
  pub style_held : HoldsStyle told style_name style
  pub text : List ℕ
  pub cert_file : get told cert_name ≡ Some text
  pub cert : Cert
  pub cert_read : cert_of style text ≡ Ok cert
  pub holds : checked style cert ≡ Ok []
  pub safe : Safe style cert.cond

-- an outcome accepts the style that the first file holds, and prints the condition of the certificate that the second holds
pub record IsAcceptance (told : Listing) (style_name cert_name : List ℕ) (outcome : Outcome) : Type 0 where
  pub found : IsAccepted told style_name cert_name
  pub printed : outcome ≡ accepted found.style found.cert.cond

-- an outcome says that something was done: its status is Done, or it has a text for standard output
abbrev pub SaysDone : Outcome → Type 0
SaysDone outcome = (outcome.status ≡ status.Done) ⊎ (outcome.out ≢ [])

-- what such an outcome promises
abbrev pub Promises : Listing → Form → Outcome → Type 0
Promises told (Check style cert) outcome = IsAcceptance told style cert outcome
Promises told (Infer style cond) outcome = IsWriting told style cond outcome
Promises told (Gen seed count) outcome = IsGenerating seed count outcome
Promises told _ outcome = Unit {0}

-- an outcome is what the words `gen SEED COUNT` come to, which no file decides
pub record IsMadeOf (seed count : ℕ) (outcome : Outcome) : Type 0 where
  pub wanted : outcome ≡ ended (gen_outcome seed count)
  pub decided : IsDecided outcome.status
  pub safe : SaysDone outcome → IsGenerating seed count outcome

-- the same where the words have that form
abbrev pub IsMade : Form → Outcome → Type 0
IsMade (Gen seed count) outcome = IsMadeOf seed count outcome
IsMade _ outcome = Unit {0}

-- the words `run AUX N CERT`
abbrev pub IsUnder : Form → Type 0
IsUnder (RunUnder aux steps cert) = Unit {0}
IsUnder _ = ⊥

-- what the outside shows of an outcome with this status, and that neither the words nor a sink decide it
abbrev pub CausedBy : Status → Outcome → Option Begun → ℕ → ℕ → Type 0
CausedBy status.NoFile outcome begun faults faults' = IsSomeAnd begun (λ b. (b.absent ≡ true) × (outcome ≡ absent b.name))
CausedBy status.ReadFailed outcome begun faults faults' =
    Rose faults faults' × IsSomeAnd begun (λ b. (b.absent ≡ false) × (outcome ≡ unread b.name))
CausedBy status.Usage outcome begun faults faults' = ⊥
CausedBy status.WriteFailed outcome begun faults faults' = ⊥
CausedBy status.NoMemory outcome begun faults faults' = ⊥
CausedBy _ outcome begun faults faults' = Unit {0}

-- an outcome is what the words and the files decide, or a file couldn't be read
abbrev pub IsWanted : Outcome → Outcome → Type 0
IsWanted wanted outcome = (outcome ≡ wanted) ⊎ ((name : List ℕ) × (outcome ≡ unread name))

-- what the words of a form come to, before it is delivered
pub record IsAnswer {F : Type 0} (see : Ghosts F) (old new : F) (form : Form) (outcome : Outcome) : Type 0 where
  pub wanted : IfSome (see.told old) (λ told. IsWanted (outcome_in told form) outcome)
  pub cause : CausedBy outcome.status outcome (last_begun (see.begun new)) (see.faults old) (see.faults new)
  pub safe : IfSome (see.told old) (λ told. SaysDone outcome → Promises told form outcome)
  pub outside : IsUnder form → FaultsOutside outcome
  pub made : IsMade form outcome

-- what a call answers and leaves on its sinks where the words and the files decide this outcome: it is delivered, or the
-- outcome of a file that couldn't be read
abbrev pub IsAnswered : Outcome → Status → Sunk → Sunk → Type 0
IsAnswered wanted given out err = IsDelivered wanted given out err ⊎ ((name : List ℕ) × IsDelivered (unread name) given out err)

-- the style that the first file holds is safe under the condition of the certificate that the second holds, and what was put on
-- standard output is a front of the text that accepts it and prints that condition
pub record IsSafelyAccepted (told : Listing) (style_name cert_name : List ℕ) (out : Sunk) : Type 0 where
  pub found : IsAccepted told style_name cert_name
  pub printed : IsFront (accepted found.style found.cert.cond).out out

-- what the status Done promises: for the words `check STYLE CERT` that the style that the first file holds is safe under the
-- condition of the certificate that the second holds, and for `infer STYLE` and `infer STYLE COND` that a certificate is found
-- of which the rules hold, and so that the style is safe under the condition that was asked for; for `gen SEED COUNT` the same of
-- the style that is made, under its default condition
abbrev pub IsDoneWell : Listing → Form → Type 0
IsDoneWell told (Check style cert) = IsAccepted told style cert
IsDoneWell told (Infer style cond) = IsInferred told style cond
IsDoneWell told (Gen seed count) = IsGenerated seed count
IsDoneWell told _ = Unit {0}

-- what a text on standard output promises: for the words `check STYLE CERT` that the style is safe, and for `infer STYLE` and
-- `infer STYLE COND` that it is one of a certificate of which the rules hold, and for `gen SEED COUNT` that the style that is made
-- is safe
abbrev pub IsPromised : Listing → Form → Sunk → Type 0
IsPromised told (Check style cert) out = IsSafelyAccepted told style cert out
IsPromised told (Infer style cond) out = IsSafelyInferred told style cond out
IsPromised told (Gen seed count) out = IsSafelyGenerated seed count out
IsPromised told _ out = Unit {0}

-- by the words `run AUX N CERT` a log was put that begins with `inside`
pub record IsInside (form : Form) (err : Sunk) : Type 0 where
  pub under : IsUnder form
  pub before : List ℕ
  pub was : err.before ≡ Some before
  pub rest : List ℕ
  pub is : err.after ≡ Some (before ++ (codes "inside\n" ++ rest))

-- what a call answers and leaves on its sinks by the words `gen SEED COUNT`, whether or not the files tell: the outcome that they
-- come to is delivered, and Done or a text on standard output says that the style that is made is safe
pub record IsMaking (seed count : ℕ) (given : Status) (out err : Sunk) : Type 0 where
  pub delivered : IsDelivered (ended (gen_outcome seed count)) given out err
  pub done : given ≡ status.Done → IsGenerated seed count
  pub safe : out.after ≢ out.before → IsSafelyGenerated seed count out

-- the same where the words have that form
abbrev pub Makes : Form → Status → Sunk → Sunk → Type 0
Makes (Gen seed count) given out err = IsMaking seed count given out err
Makes _ given out err = Unit {0}
