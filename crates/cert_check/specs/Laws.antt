-- What the laws on certificates and their units say (docs/CHECKER.md, "What checked units mean" and "Refusals").
use Rattle.std.specs.Prelude.{◌≡◌, ◌≤◌, ◌⊎◌, ℕ, [], ◌∷◌, ◌++◌, List, length, None, Some, Ok, Err, slice_get}
use Rattle.std.specs.List.{All}
use Rattle.bv_base.specs.declared.limits.TheConstants.{STYLE_BYTES}
use Rattle.bv_base.specs.declared.place.Place.{Place}
use Rattle.name_table.specs.declared.style.Style.{Style}
use Rattle.name_table.specs.Sound.{IsSound}
use Rattle.bst_meaning.specs.Entries.{Fits}
use Rattle.bst_meaning.specs.EntryLists.{EntryList}
use Rattle.bst_meaning.specs.declared.value.Target.{Target}
use Rattle.cert_format.specs.Texts.{cert_of}
use Rattle.cert_format.specs.declared.cert.Cert.{Cert}
use Rattle.cert_format.specs.declared.cert.CommandPart.{CommandPart}
use Rattle.cert_format.specs.declared.cert.Loop.{Loop}
use Rattle.cert_format.specs.declared.cert.Summary.{Summary}
use Rattle.sym_state.specs.State.{State}
use Rattle.sym_state.specs.WellMade.{WellMade}
use Rattle.sym_state.specs.declared.hint.Hint.{Hint}
use Rattle.straight_hints.specs.declared.finding.Finding.{Finding}
use Rattle.cert_check.specs.Certified.{IsCertified}
use Rattle.cert_check.specs.Courses.{Course}
use Rattle.cert_check.specs.Places.{IsOfBody, IsOfUnit}
use Rattle.cert_check.specs.Safely.{EntersSafely, IsAllChecked, RepeatsSafely}
use Rattle.cert_check.specs.Units.{call_found, call_walked, everywhere, loop_checked, summary_checked}
use Rattle.cert_check.specs.Walks.{Scope, loop_used, summary_used}
use Rattle.cert_check.specs.declared.refusal.Refusal.{Refusal}

-- a certificate that was read for a style is one of it
abbrev pub ReadIsCertified : Type 0
ReadIsCertified = (style : Style) (source : List ℕ) (cert : Cert) → IsSound style → length source ≤ STYLE_BYTES → cert_of style source ≡ Ok cert
    → IsCertified style cert

-- a summary that is used enters its body safely
abbrev pub UsesAreSafe : Type 0
UsesAreSafe = (scope : Scope) (list : EntryList) (k : ℕ) (summary : Summary) (first : State) (place at : Place) (course after : Course) (n : ℕ)
    → IsSound scope.style → Fits scope.style list → IsCertified scope.style scope.cert → IsAllChecked scope.style scope.cert
    → slice_get scope.cert.summaries k ≡ Some summary → WellMade scope.style first → scope.make ≡ None
    → summary_used scope place summary first course ≡ Ok after → EntersSafely scope list n summary.body at (first ∷ []) after.given

-- a loop that is used repeats its body safely
abbrev pub LoopsAreSafe : Type 0
LoopsAreSafe = (scope : Scope) (list : EntryList) (k : ℕ) (one : Loop) (first : State) (place at : Place) (course after : Course) (n : ℕ)
    → IsSound scope.style → Fits scope.style list → IsCertified scope.style scope.cert → IsAllChecked scope.style scope.cert
    → slice_get scope.cert.loops k ≡ Some one → WellMade scope.style first → scope.make ≡ None → loop_used scope place one first course ≡ Ok after
    → RepeatsSafely scope list n one at (first ∷ []) after.given

-- a call that is walked enters its target safely
abbrev pub CallsAreSafe : Type 0
CallsAreSafe = (style : Style) (cert : Cert) (list : EntryList) (states : List State) (target : Target) (place at : Place) (hints : List Hint) (after : Course)
    (n : ℕ) → IsSound style → Fits style list → IsCertified style cert → IsAllChecked style cert → All (WellMade style) states
    → call_walked style cert states target place hints ≡ Ok after → EntersSafely (everywhere style cert) list n target at states after.given

-- a rule of a summary fails at a place of a unit
abbrev pub SummariesFail : Type 0
SummariesFail = (style : Style) (cert : Cert) (summary : Summary) (refusal : Refusal) → summary_checked style cert summary ≡ Err refusal
    → IsOfUnit style refusal.place

-- so does one of a loop
abbrev pub LoopsFail : Type 0
LoopsFail = (style : Style) (cert : Cert) (one : Loop) (refusal : Refusal) → loop_checked style cert one ≡ Err refusal → IsOfUnit style refusal.place

-- a rule of a call fails at its place, or at one of a body
abbrev pub CallsFail : Type 0
CallsFail = (style : Style) (cert : Cert) (states : List State) (target : Target) (place : Place) (hints : List Hint) (refusal : Refusal)
    → call_walked style cert states target place hints ≡ Err refusal → (refusal.place ≡ place) ⊎ IsOfBody style refusal.place

-- a call reads the hints that are found for it, and leaves those behind them
abbrev pub FoundIsRead : Type 0
FoundIsRead = (finding : Finding) (style : Style) (cert : Cert) (parts : List CommandPart) (states : List State) (target : Target) (place : Place)
    (after : Course) (rest : List Hint) → call_found finding style cert states target place ≡ Ok after
    → call_walked style (record cert { commands = parts }) states target place (after.found ++ rest)
    ≡ Ok (record after { hints = rest; finding = None; found = [] })
