-- The frame of what a command leaves, by its parts, and the piece that stands before its first visit.
use Rattle.std.proofs.Common.{◌≡◌, List, [], ◌∷◌, true, false, ap, refl, ◌∙◌, arith}
use Rattle.std.proofs.lemmas.List.Elements.{All-cons, All-nil}
use Rattle.lin_facts.specs.declared.row.Part.{Part}
use Rattle.lin_facts.specs.declared.row.Term.{Term}
use Rattle.name_table.specs.Sound.{IsSound}
use Rattle.name_table.specs.declared.names.NameId.{NameId}
use Rattle.name_table.specs.declared.style.Style.{Style}
use Rattle.bst_meaning.specs.declared.condition.Cond.{Cond}
use Rattle.sym_state.specs.State.{State}
use Rattle.sym_state.specs.WellMade.{HasSmallFields}
use Rattle.sym_state.specs.declared.piece.Piece.{Piece}
use Rattle.loop_templates.specs.Bound.{all_bound, is_bound_variable}
use Rattle.loop_templates.specs.Reaching.{Occurring, command_terms, occurring_anywhere, occurring_of}
use Rattle.loop_templates.specs.Sums.{sums}
use Rattle.loop_templates.specs.Visits.{common_case}
use Rattle.cert_check.specs.Room.{HasRoom}
use Rattle.command_flow.specs.Commands.{started_between}
use Rattle.command_flow.specs.Ready.{IsReady}
use Rattle.command_flow.specs.Templates.{IsVisit, before_visits, first_visit, frame_left, frame_of_parts, reached_from}
use Rattle.command_flow.specs.declared.between.Between.{Between}
use Rattle.command_flow.specs.declared.leaving.Leaving.{Leaving}
use Rattle.command_flow.proofs.LeftPieces.{case_left, frame_ready, left_visit}
use Rattle.command_flow.proofs.Ready.{pieces_room}

-- a frame of these parts is that of what a command leaves
pub frame_is_left : (style : Style) (admits : Cond) (name : NameId) (leaving : Leaving) (start : State) (reached anywhere : Occurring) (writes : List NameId)
    (terms : List Term) (all : List (List Part)) → reached ≡ reached_from style admits name
    → writes ≡ occurring_of (is_bound_variable (all_bound true)) style reached.quoted → anywhere ≡ occurring_anywhere style
    → terms ≡ command_terms style anywhere leaving.bound leaving.has_pos → all ≡ sums terms
    → frame_of_parts style admits leaving writes all (start ∷ []) ≡ frame_left style admits name leaving start
frame_is_left style admits name leaving start reached anywhere writes terms all is_reached is_written is_anywhere are_terms are_sums =
    let written = λ (found : Occurring). occurring_of (is_bound_variable (all_bound true)) style found.quoted in
    ap (λ (w : List NameId). frame_of_parts style admits leaving w all (start ∷ [])) (is_written ∙ ap written is_reached)
    ∙ ap (λ (s : List (List Part)). frame_of_parts style admits leaving (written (reached_from style admits name)) s (start ∷ []))
    (are_sums ∙ ap sums (are_terms ∙ ap (λ (found : Occurring). command_terms style found leaving.bound leaving.has_pos) is_anywhere))

-- what the state before all visits has
pub first_is : (style : Style) (admits : Cond) (name : NameId) (between : Between) (start before : State) (case : Piece) → start ≡ started_between style admits between
    → before ≡ started_between style admits between → case ≡ common_case (frame_left style admits name before_visits start) (before ∷ [])
    → case ≡ first_visit style admits name between
first_is style admits name between start before case starts stands is =
    is
    ∙ ap (λ (s : State). common_case (frame_left style admits name before_visits s) (before ∷ [])) starts
    ∙ ap (λ (s : State). common_case (frame_left style admits name before_visits (started_between style admits between)) (s ∷ [])) stands

-- it may stand before visits
pub first_stands : (style : Style) (admits : Cond) (name : NameId) (between : Between) (visit : Piece) → visit ≡ first_visit style admits name between → IsSound style
    → HasSmallFields admits → IsReady style between.globals → IsVisit style visit
first_stands style admits name between visit is sound small ready =
    let before = started_between style admits between in
    let room : HasRoom style 64 0 before = pieces_room style admits (between.globals ∷ []) true false sound small
    (All-cons (IsReady style) between.globals [] ready (All-nil (IsReady style))) (omega arith) in
    let frame = frame_left style admits name before_visits before in
    left_visit style visit sound (case_left frame (before ∷ []) visit is (frame_ready style admits name before_visits before sound room.made (λ _. refl)))
