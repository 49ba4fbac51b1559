-- A rule of commands that fails does so at the place of a command, and a unit's in the unit.
use Rattle.std.proofs.Common.{◌≡◌, ℕ, suc, ◌⊎◌, Bool, true, false, cond, nat_eq, List, [], ◌∷◌, Option, Result, Ok, Err, refl, sym, subst, inl, inr}
use Rattle.std.specs.Prelude.{IfErr, find}
use Rattle.std.specs.Option.{option_map_or}
use Rattle.bv_base.specs.Answers.{then_do}
use Rattle.bv_base.specs.declared.place.Place.{Place}
use Rattle.bv_base.proofs.ThenLemmas.{then_faulty}
use Rattle.name_table.specs.Sound.{Each}
use Rattle.name_table.specs.declared.names.NameId.{NameId}
use Rattle.name_table.specs.declared.style.Command.{Command}
use Rattle.name_table.specs.declared.style.Command.TheVariants.{Execute, Iterate, Reverse}
use Rattle.name_table.specs.declared.style.CommandAt.{CommandAt}
use Rattle.name_table.specs.declared.style.Style.{Style}
use Rattle.bst_meaning.specs.declared.condition.Cond.{Cond}
use Rattle.bst_meaning.specs.declared.value.Target.{Target}
use Rattle.bst_meaning.specs.declared.value.Target.TheVariants.{Named}
use Rattle.cert_format.specs.declared.cert.Cert.{Cert}
use Rattle.cert_format.specs.declared.cert.CommandPart.{CommandPart}
use Rattle.sym_state.specs.Positions.{AtStart, AtNext, AtEnd}
use Rattle.sym_state.specs.Showing.{piece_by}
use Rattle.sym_state.specs.State.{State}
use Rattle.sym_state.specs.declared.hint.Hint.{Hint}
use Rattle.sym_state.specs.declared.piece.Piece.{Piece}
use Rattle.sym_state.specs.declared.symbol.Sym.{Sym}
use Rattle.cert_check.proofs.RefusalPlaces.{element_at, left_fails, placed_fails, refused}
use Rattle.cert_check.specs.Courses.{placed, refuses}
use Rattle.cert_check.specs.Laws.{CallsFail, LoopsFail, SummariesFail}
use Rattle.cert_check.specs.Places.{IsOfBody, IsOfUnit}
use Rattle.cert_check.specs.Units.{call_walked, loop_checked, none_left, summary_checked}
use Rattle.cert_check.specs.declared.refusal.Reason.TheVariants.{CommandShape}
use Rattle.cert_check.specs.declared.refusal.Refusal.{Refusal}
use Rattle.command_flow.specs.Between.{opened, piece_moved}
use Rattle.command_flow.specs.Checks.{checked, commands_checked, each_checked, loops_checked, summaries_checked}
use Rattle.command_flow.specs.Commands.{Left, call_ends, called, command_checked, command_taken, emptied, executed, is_shaped, parts_of, pieces_shown, started_between, started_visit, state_ends, visited}
use Rattle.command_flow.specs.Places.{IsOfCommand}
use Rattle.command_flow.specs.declared.between.Between.{Between}
use Rattle.command_flow.specs.declared.between.Parts.{Parts}

-- where each refusal stands at such a place, one that is there does
fails_by : {X : Type 0} (P : Place → Type 0) (result : Result X Refusal) → ((refusal : Refusal) → result ≡ Err refusal → P refusal.place)
    → IfErr result (λ r. P r.place)
fails_by P (Ok x) all = tt
fails_by P (Err refusal) all = all refusal refl

module _ (P : Place → Type 0) where
  -- a rule fails at such a place alone
  abbrev Fails : {X : Type 0} → Result X Refusal → Type 0
  Fails result = IfErr result (λ r. P r.place)

  emptied_fails : (place : Place) (stack : List Sym) (hints : List Hint) → P place → Fails (emptied place stack hints)
  emptied_fails place [] hints at = tt
  emptied_fails place (s ∷ stack) hints at = at

  shown_fails : (cond : Cond) (place : Place) (state : State) (pieces : List Piece) (hints : List Hint) → P place
      → Fails (pieces_shown cond place state pieces hints)
  shown_fails cond place state [] hints at = tt
  shown_fails cond place state (piece ∷ pieces) hints at =
      let shown = piece_by cond state piece 0 hints in
      then_faulty (λ (r : Refusal). P r.place) (placed place shown) (pieces_shown cond place state pieces) (placed_fails P place shown at)
      (λ left _. shown_fails cond place state pieces left at)

  state_fails : (cond : Cond) (place : Place) (pieces : List Piece) (state : State) (hints : List Hint) → P place
      → Fails (state_ends cond place pieces state hints)
  state_fails cond place pieces state hints at =
      then_faulty (λ (r : Refusal). P r.place) (emptied place state.stack hints) (pieces_shown cond place state pieces)
      (emptied_fails place state.stack hints at) (λ left _. shown_fails cond place state pieces left at)

  ends_fail : (cond : Cond) (place : Place) (pieces : List Piece) (states : List State) (hints : List Hint) → P place
      → Fails (call_ends cond place pieces states hints)
  ends_fail cond place pieces [] hints at = tt
  ends_fail cond place pieces (state ∷ states) hints at =
      then_faulty (λ (r : Refusal). P r.place) (state_ends cond place pieces state hints) (call_ends cond place pieces states)
      (state_fails cond place pieces state hints at) (λ left _. ends_fail cond place pieces states left at)

  -- the rules of a style's commands, where a body's place is such a place
  module _ (style : Style) (cert : Cert) (calls : CallsFail) (bodies : (place : Place) → IsOfBody style place → P place) where
    call_fails : (states : List State) (target : Target) (place : Place) (hints : List Hint) → P place
        → Fails (call_walked style cert states target place hints)
    call_fails states target place hints at = fails_by P (call_walked style cert states target place hints) (λ refusal is.
        elim (calls style cert states target place hints refusal is) [
          | inl same ↦ subst P (sym same) at
          | inr body ↦ bodies refusal.place body
        ])

    called_fails : (name : NameId) (place : Place) (state : State) (pieces : List Piece) (hints : List Hint) → P place
        → Fails (called style cert name place state pieces hints)
    called_fails name place state pieces hints at =
        then_faulty (λ (r : Refusal). P r.place) (call_walked style cert (state ∷ []) (Named name) place hints)
        (λ course. then_do (call_ends cert.cond place pieces course.given course.hints) (none_left place))
        (call_fails (state ∷ []) (Named name) place hints at)
        (λ course _. then_faulty (λ (r : Refusal). P r.place) (call_ends cert.cond place pieces course.given course.hints) (none_left place)
        (ends_fail cert.cond place pieces course.given course.hints at) (λ left _. left_fails P place left at))

    executed_fails : (name : NameId) (place : Place) (parts : Parts) (between : Between) → P place → Fails (executed style cert name place parts between)
    executed_fails name place parts between at =
        then_faulty (λ (r : Refusal). P r.place)
        (called style cert name place (started_between style cert.cond between) (parts.after ∷ []) parts.hints)
        (λ hints. Ok (record { globals = parts.after; entry = between.entry }))
        (called_fails name place (started_between style cert.cond between) (parts.after ∷ []) parts.hints at) (λ hints _. tt)

    visited_fails : (name : NameId) (place : Place) (parts : Parts) (between : Between) → P place → Fails (visited style cert name place parts between)
    visited_fails name place parts between at =
        let first = piece_by cert.cond (started_between style cert.cond between) (piece_moved AtStart parts.visit) 0 parts.hints in
        let left = piece_moved AtNext parts.visit ∷ parts.keeps ∷ [] in
        let after : Between = record { globals = piece_moved AtEnd parts.visit; entry = parts.keeps } in
        then_faulty (λ (r : Refusal). P r.place) (placed place first)
        (λ hints. then_do (called style cert name place (started_visit style cert.cond parts.visit between.entry) left hints) (λ _. Ok after))
        (placed_fails P place first at)
        (λ hints _. then_faulty (λ (r : Refusal). P r.place)
        (called style cert name place (started_visit style cert.cond parts.visit between.entry) left hints) (λ _. Ok after)
        (called_fails name place (started_visit style cert.cond parts.visit between.entry) left hints at) (λ _ _. tt))

    command_fails : (command : Command) (place : Place) (parts : Parts) (between : Between) → P place
        → Fails (command_checked style cert command place parts between)
    command_fails (Execute name) place parts between at = executed_fails name place parts between at
    command_fails (Iterate name) place parts between at = visited_fails name place parts between at
    command_fails (Reverse name) place parts between at = visited_fails name place parts between at
    command_fails _ place parts between at = tt

    taken_fails : (at : CommandAt) (part : Option CommandPart) (between : Between) → P at.place → Fails (command_taken style cert at part between)
    taken_fails at part between stands = by_shape (option_map_or (is_shaped style at.command) part true)
      where
        by_shape : (shaped : Bool)
            → Fails (cond shaped (command_checked style cert at.command at.place (parts_of part) between) (refuses at.place CommandShape))
        by_shape true = command_fails at.command at.place (parts_of part) between stands
        by_shape false = stands

    commands_fail : (index : ℕ) (between : Between) (commands : List CommandAt) → Each (λ at. P at.place) commands
        → Fails (commands_checked style cert index between commands)
    commands_fail index between [] each = tt
    commands_fail index between (at ∷ commands) each =
        let part = find (λ (p : CommandPart). nat_eq p.index index) cert.commands in
        then_faulty (λ (r : Refusal). P r.place) (command_taken style cert at part between)
        (λ after. commands_checked style cert (suc index) after commands)
        (taken_fails at part between each.0) (λ after _. commands_fail (suc index) after commands each.1)

-- summaries and loops
units_fail : {X : Type 0} (style : Style) (check : X → Left) (units : List X) → ((unit : X) → IfErr (check unit) (λ r. IsOfUnit style r.place))
    → IfErr (each_checked check units) (λ r. IsOfUnit style r.place)
units_fail style check [] each = tt
units_fail style check (unit ∷ units) each =
    then_faulty (λ (r : Refusal). IsOfUnit style r.place) (check unit) (λ hints. each_checked check units) (each unit)
    (λ hints _. units_fail style check units each)

-- the place of a command, or in a unit
abbrev InStyle : Style → Place → Type 0
InStyle style place = IsOfCommand style place ⊎ IsOfUnit style place

-- a rule's refusal stands there
pub rule_refused : (style : Style) (cert : Cert) (refusal : Refusal) → SummariesFail → LoopsFail → CallsFail → checked style cert ≡ Err refusal
    → InStyle style refusal.place
rule_refused style cert refusal summaries loops calls is = refused (InStyle style) (checked style cert) refusal is all_fail
  where
    in_unit : {X : Type 0} (result : Result X Refusal) → IfErr result (λ r. IsOfUnit style r.place) → IfErr result (λ r. InStyle style r.place)
    in_unit (Ok x) fails = tt
    in_unit (Err r) fails = inr fails

    commands : IfErr (commands_checked style cert 0 (opened style) style.commands) (λ r. InStyle style r.place)
    commands = commands_fail (InStyle style) style cert calls (λ place body. inr (inl body)) 0 (opened style) style.commands
        (element_at (λ (at : CommandAt). InStyle style at.place) style.commands (λ k at there. inl (k, at, there, refl)))

    all_fail : IfErr (checked style cert) (λ r. InStyle style r.place)
    all_fail =
        then_faulty (λ (r : Refusal). InStyle style r.place) (summaries_checked style cert cert.summaries)
        (λ hints. then_do (loops_checked style cert cert.loops) (λ hints. commands_checked style cert 0 (opened style) style.commands))
        (in_unit (summaries_checked style cert cert.summaries) (units_fail style (summary_checked style cert) cert.summaries
        (λ summary. fails_by (IsOfUnit style) (summary_checked style cert summary) (summaries style cert summary))))
        (λ hints _. then_faulty (λ (r : Refusal). InStyle style r.place) (loops_checked style cert cert.loops)
        (λ hints. commands_checked style cert 0 (opened style) style.commands)
        (in_unit (loops_checked style cert cert.loops) (units_fail style (loop_checked style cert) cert.loops
        (λ one. fails_by (IsOfUnit style) (loop_checked style cert one) (loops style cert one)))) (λ hints _. commands))
