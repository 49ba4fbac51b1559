-- The commands of a style whose hints are found (docs/ANALYSER.md, "Commands"): each is walked as the rules walk it, and no piece is
-- kept between commands but what the variables open with.
use Rattle.std.specs.Prelude.{◌≡◌, ℕ, suc, ◌<◌, true, nat_lt, List, [], ◌∷◌, ◌++◌, length, None, Result, Ok}
use Rattle.bv_base.specs.Answers.{then_do}
use Rattle.bv_base.specs.declared.place.Place.{Place}
use Rattle.name_table.specs.Sound.{Each}
use Rattle.name_table.specs.declared.names.NameId.{NameId}
use Rattle.name_table.specs.declared.style.Command.{Command}
use Rattle.name_table.specs.declared.style.Command.TheVariants.{Execute, Iterate, Reverse}
use Rattle.name_table.specs.declared.style.CommandAt.{CommandAt}
use Rattle.name_table.specs.declared.style.Style.{Style}
use Rattle.bst_meaning.specs.declared.value.Target.TheVariants.{Named}
use Rattle.cert_format.specs.CertText.{IsHint}
use Rattle.cert_format.specs.CondText.{is_chain}
use Rattle.cert_format.specs.declared.cert.Cert.{Cert}
use Rattle.cert_format.specs.declared.cert.CommandPart.{CommandPart}
use Rattle.sym_state.specs.State.{State}
use Rattle.sym_state.specs.declared.hint.Hint.{Hint}
use Rattle.straight_hints.specs.declared.finding.Finding.{Finding}
use Rattle.cert_check.specs.Units.{call_found}
use Rattle.cert_check.specs.declared.refusal.Refusal.{Refusal}
use Rattle.command_flow.specs.Between.{nothing, opened}
use Rattle.command_flow.specs.Commands.{Left, call_ends, started_between, started_visit}
use Rattle.command_flow.specs.Ready.{AreReady}
use Rattle.command_flow.specs.declared.between.Between.{Between}
use Rattle.command_flow.specs.declared.finding.Found.{Found}

-- a command's name is called from a state: the hints that are found, where the stack of each state at the end is empty
abbrev pub called_finding : Finding → Style → Cert → NameId → Place → State → Left
called_finding finding style cert name place state =
    then_do (call_found finding style cert (state ∷ []) (Named name) place) (λ course.
    call_ends cert.cond place [] course.given course.found)

-- what is found for a command: what stands after it is ready, and its hints may be written
pub record IsFound (style : Style) (found : Found) : Type 0 where
  pub ready : AreReady style found.between
  pub written : Each IsHint found.hints

-- what stands after a command and the hints that were found for it, or the rule that fails
abbrev pub Onward : Type 0
Onward = Result Found Refusal

-- EXECUTE: nothing is known of the global variables after it
abbrev pub executed_finding : Finding → Style → Cert → NameId → Place → Between → Onward
executed_finding finding style cert name place between =
    then_do (called_finding finding style cert name place (started_between style cert.cond between)) (λ hints.
    Ok (record { between = record { globals = nothing; entry = between.entry }; hints = hints }))

-- ITERATE and REVERSE: nothing is known of the global variables where a visit begins, and of the entries after all visits
abbrev pub visited_finding : Finding → Style → Cert → NameId → Place → Between → Onward
visited_finding finding style cert name place between =
    then_do (called_finding finding style cert name place (started_visit style cert.cond nothing between.entry)) (λ hints.
    Ok (record { between = record { globals = nothing; entry = nothing }; hints = hints }))

-- a command: READ, SORT and declarations change nothing that is known
abbrev pub command_found : Finding → Style → Cert → Command → Place → Between → Onward
command_found finding style cert (Execute name) place between = executed_finding finding style cert name place between
command_found finding style cert (Iterate name) place between = visited_finding finding style cert name place between
command_found finding style cert (Reverse name) place between = visited_finding finding style cert name place between
command_found finding style cert _ place between = Ok (record { between = between; hints = [] })

-- the record of the command of a number: none where no hint was found
abbrev pub record_of : ℕ → List Hint → List CommandPart
record_of index [] = []
record_of index (hint ∷ hints) = record { index = index; after = None; visit = None; keeps = None; hints = hint ∷ hints } ∷ []

-- commands in order, numbered from here, behind the records of those before them
abbrev pub commands_found : Finding → Style → Cert → ℕ → Between → List CommandPart → List CommandAt → Result (List CommandPart) Refusal
commands_found finding style cert index between parts [] = Ok parts
commands_found finding style cert index between parts (at ∷ commands) =
    then_do (command_found finding style cert at.command at.place between) (λ found.
    commands_found finding style cert (suc index) found.between (parts ++ record_of index found.hints) commands)

-- the records of the commands of a style, or the first rule that fails
abbrev pub records_found : Finding → Style → Cert → Result (List CommandPart) Refusal
records_found finding style cert = commands_found finding style cert 0 (opened style) [] style.commands

-- the record of a command of the style has hints alone, as they may stand in a certificate's text
pub record IsRecord (style : Style) (part : CommandPart) : Type 0 where
  pub there : part.index < length style.commands
  pub after : part.after ≡ None
  pub visit : part.visit ≡ None
  pub keeps : part.keeps ≡ None
  pub hints : Each IsHint part.hints

-- records of commands, upwards by their numbers
pub record AreRecords (style : Style) (parts : List CommandPart) : Type 0 where
  pub each : Each (IsRecord style) parts
  pub rise : is_chain (λ a b. nat_lt a.index b.index) parts ≡ true
