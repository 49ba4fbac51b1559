-- The outcomes that are told (docs/COMMANDS.md, "Statuses"): the status, the text for standard output and the text for standard
-- error of each.
use Rattle.std.specs.Prelude.{ℕ, List, [], ◌++◌, codes, Result, Ok, Err}
use Rattle.std.specs.Fmt.{decimal}
use Rattle.bv_base.specs.declared.place.Place.{Place}
use Rattle.bv_base.specs.declared.status.Status.{Status}
use Rattle.bv_base.specs.declared.status.Status.TheVariants as status
use Rattle.bst_parse.specs.declared.fault.StyleFault.{StyleFault}
use Rattle.bst_parse.specs.Fault as style
use Rattle.bst_meaning.specs.declared.condition.Cond.{Cond}
use Rattle.bst_meaning.specs.declared.fault.Fault.{Fault}
use Rattle.bst_meaning.specs.Faults as run
use Rattle.name_table.specs.declared.style.Style.{Style}
use Rattle.cert_format.specs.declared.fault.CertFault.{CertFault}
use Rattle.cert_format.specs.Faults as cert
use Rattle.cert_format.specs.Spelling.{cond_items, text_of}
use Rattle.cert_check.specs.declared.refusal.Refusal.{Refusal}
use Rattle.bst_run.specs.declared.outcome.Outcome.{Outcome}
use Rattle.bst_run.specs.declared.data_fault.DataFault.{DataFault}
use Rattle.bst_run.specs.DataFaults.{name_of, place_of}
use Rattle.bst_run.specs.Refusals.{reason_text}

-- the outcome with this status whose last line stands alone
abbrev pub last_line : Status → List ℕ → Outcome
last_line given line = record { status = given; out = []; err = line }

-- the words have none of the forms
abbrev pub usage : Outcome
usage = last_line status.Usage (codes "usage: check STYLE CERT; infer STYLE [COND]; run AUX N [CERT]; gen SEED COUNT\n")

-- no file has this name
abbrev pub absent : List ℕ → Outcome
absent name = last_line status.NoFile (codes "no file " ++ (name ++ codes "\n"))

-- the file of this name couldn't be begun or read
abbrev pub unread : List ℕ → Outcome
unread name = last_line status.ReadFailed (codes "read failed " ++ (name ++ codes "\n"))

-- the file of this name has more bytes than its limit
abbrev pub too_long : List ℕ → Outcome
too_long name = last_line status.TooLong (codes "too long " ++ (name ++ codes "\n"))

-- LINE:COLUMN
abbrev pub place_text : Place → List ℕ
place_text place = decimal place.line ++ (codes ":" ++ decimal place.column)

-- the last line of a run that has come to an execution error
abbrev pub fault_line : Fault → Place → List ℕ → List ℕ
fault_line fault place key =
    codes "fault " ++ (place_text place ++ (codes " " ++ (run.name_of fault ++ (codes " " ++ (key ++ codes "\n")))))

-- the last line of a run that has taken its steps
abbrev pub budget_line : ℕ → List ℕ
budget_line steps = codes "budget " ++ (decimal steps ++ codes "\n")

-- the line for a text at fault at a place
abbrev pub placed_line : List ℕ → Place → List ℕ → List ℕ
placed_line words place name = words ++ (codes " " ++ (place_text place ++ (codes " " ++ (name ++ codes "\n"))))

-- the bytes of a style are at fault
abbrev pub bad_style : StyleFault → Outcome
bad_style fault = last_line status.BadStyle (placed_line (codes "bad style") (style.place_of fault) (style.name_of fault))

-- the bytes of a certificate are at fault
abbrev pub bad_cert : CertFault → Outcome
bad_cert fault = last_line status.BadCert (placed_line (codes "bad certificate") (cert.place_of fault) (cert.name_of fault))

-- the data file of this name is at fault
abbrev pub bad_data : List ℕ → DataFault → Outcome
bad_data name fault =
    last_line status.BadData
    (codes "bad data " ++ (name ++ (codes " " ++ (place_text (place_of fault) ++ (codes " " ++ (name_of fault ++ codes "\n"))))))

-- the line for a rule that fails
abbrev pub refused_line : Refusal → List ℕ
refused_line refusal = codes "refused " ++ (place_text refusal.place ++ (codes " " ++ (reason_text refusal.reason ++ codes "\n")))

-- a rule fails
abbrev pub refused : Refusal → Outcome
refused refusal = last_line status.Refused (refused_line refusal)

-- no certificate is found: the place, and why
abbrev pub unknown : Place → List ℕ → Outcome
unknown place reason = last_line status.Unknown (placed_line (codes "unknown") place reason)

-- the rules hold: the style is safe under the condition that is printed
abbrev pub accepted : Style → Cond → Outcome
accepted style cond = record {
  status = status.Done;
  out = codes "accepted\nlist 1\n" ++ text_of (cond_items style.names cond);
  err = [];
}

-- a certificate is written
abbrev pub written : List ℕ → Outcome
written text = record { status = status.Done; out = text; err = [] }

-- a style of so many functions and bytes is made, and the rules hold of a certificate that is found for it
abbrev pub generated : ℕ → ℕ → Outcome
generated count bytes = record {
  status = status.Done;
  out = codes "functions " ++ (decimal count ++ (codes "\nbytes " ++ (decimal bytes ++ codes "\naccepted\n")));
  err = [];
}

-- the rules hold, or the first that fails is told
abbrev pub holding : {A : Type 0} → Result A Refusal → Result (Unit {0}) Outcome
holding (Ok left) = Ok tt
holding (Err refusal) = Err (refused refusal)
