-- The certificate that is found for a style under a condition (docs/ANALYSER.md).
use Rattle.std.specs.Prelude.{◌≡◌, ◌≢◌, if◌then◌else◌, List, [], Some, Result, Ok, Err}
use Rattle.std.specs.Result.{MatchResult}
use Rattle.name_table.specs.declared.style.Style.{Style}
use Rattle.bst_meaning.specs.declared.condition.Cond.{Cond}
use Rattle.cert_format.specs.CertText.{IsCert}
use Rattle.cert_format.specs.declared.cert.Cert.{Cert}
use Rattle.cert_format.specs.declared.cert.CommandPart.{CommandPart}
use Rattle.cert_check.specs.Certified.{IsCertified}
use Rattle.cert_check.specs.declared.refusal.Reason.{Reason}
use Rattle.cert_check.specs.declared.refusal.Reason.TheVariants as rule
use Rattle.cert_check.specs.declared.refusal.Refusal.{Refusal}
use Rattle.command_flow.specs.Finding.{records_found}
use Rattle.command_flow.specs.Templates.{Seeking, made_in}
use Rattle.command_flow.specs.declared.templates.Made.{Made}
use Rattle.infer_loops.specs.Invariants.{invariant_of}
use Rattle.straight_hints.specs.declared.finding.Finding.TheVariants.{Bare, Straight}
use Rattle.infer.specs.Fragment.{has_while, is_of_fragment}
use Rattle.infer.specs.declared.unknown.Unknown.{Unknown}
use Rattle.infer.specs.declared.unknown.UnknownReason.{UnknownReason}
use Rattle.infer.specs.declared.unknown.UnknownReason.TheVariants.{Demand, Loop, TooManyCases, WalkTooLong, WalkTooDeep, UnknownFunction, Rejected, NoMemory}

-- the certificate of a condition that has nothing else
abbrev pub bare : Cond → Cert
bare admits = record { list = 1; cond = admits; summaries = []; loops = []; commands = [] }

-- why a walk that finds its hints ends early: a hint that can't be found is that of a `while$`, for which no loop is found
abbrev pub unknown_reason : Reason → UnknownReason
unknown_reason (rule.Demand demand) = Demand demand
unknown_reason rule.HintsShort = Loop
unknown_reason rule.NoInvariant = Loop
unknown_reason rule.TooManyCases = TooManyCases
unknown_reason rule.WalkTooLong = WalkTooLong
unknown_reason rule.WalkTooDeep = WalkTooDeep
unknown_reason rule.UnknownFunction = UnknownFunction
unknown_reason rule.NoMemory = NoMemory
unknown_reason _ = Rejected

-- the certificate with the records that were found, or where and why there is none
abbrev pub certified : Cond → Result (List CommandPart) Refusal → Result Cert Unknown
certified admits (Ok parts) = Ok (record (bare admits) { commands = parts })
certified admits (Err refusal) = Err (record { place = refusal.place; reason = unknown_reason refusal.reason })

-- the certificate with what was made for its commands, or where and why there is none
abbrev pub made_certified : Cond → Result Made Refusal → Result Cert Unknown
made_certified admits (Ok made) = Ok (record (bare admits) { loops = made.lasting.loops; commands = made.parts })
made_certified admits (Err refusal) = Err (record { place = refusal.place; reason = unknown_reason refusal.reason })

-- how a style is walked whose loops are their invariants
abbrev pub seeking_invariants : Style → Cond → Seeking
seeking_invariants style admits = record { style = style; cert = bare admits; make = Some (invariant_of style (bare admits)) }

-- the certificate whose loops and pieces are found
abbrev pub templates_of : Style → Cond → Result Cert Unknown
templates_of style admits = made_certified admits (made_in (seeking_invariants style admits))

-- the certificate of straight hints alone, or where there is none that whose loops and pieces are found
abbrev pub straight_or_templates : Style → Cond → Result (List CommandPart) Refusal → Result Cert Unknown
straight_or_templates style admits (Ok parts) = certified admits (Ok parts)
straight_or_templates style admits (Err refusal) = templates_of style admits

-- that of a style which isn't of the kind fragment: with a loop its loops are found
abbrev pub beyond_fragment : Style → Cond → Result Cert Unknown
beyond_fragment style admits =
    if has_while style then templates_of style admits
    else straight_or_templates style admits (records_found Straight style (bare admits))

-- the certificate that is found for a style under a condition, or where and why none is
abbrev pub infer_of : Style → Cond → Result Cert Unknown
infer_of style admits =
    if is_of_fragment style then certified admits (records_found Bare style (bare admits)) else beyond_fragment style admits

-- a call gives the certificate that is wanted, or says where and why there is none, but for want of memory, which is free
abbrev pub Infers : Result Cert Unknown → Result Cert Unknown → Type 0
Infers wanted result = MatchResult result (λ cert. wanted ≡ Ok cert) (λ unknown. unknown.reason ≢ NoMemory → wanted ≡ Err unknown)

-- a certificate keeps a condition, has a text and is one of the style
pub record Keeps (style : Style) (admits : Cond) (cert : Cert) : Type 0 where
  pub kept : cert.cond ≡ admits
  pub written : IsCert style cert
  pub certified : IsCertified style cert
