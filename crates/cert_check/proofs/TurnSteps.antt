-- What the steps of a loop's own check come to.
use Rattle.std.proofs.Common.{◌≡◌, ℕ, ◌+◌, ◌<◌, ◌≤◌, Bool, List, [], ◌∷◌, reverse, slice_get, Option, None, Some, IfSome, IfOk, OnOk, Result, Ok, Err, sym, ap, subst, ◌∙◌, arith}
use Rattle.std.specs.List.{All}
use Rattle.std.specs.Option.{option_map_or}
use Rattle.std.specs.Result.{MatchResult}
use Rattle.std.proofs.lemmas.List.Elements.{All-head, All-tail, All-weaker}
use Rattle.bv_base.specs.Answers.{then_do}
use Rattle.bv_base.specs.declared.place.Place.{Place}
use Rattle.name_table.specs.Sound.{IsSound}
use Rattle.name_table.specs.declared.names.NameId.{NameId}
use Rattle.name_table.specs.declared.style.BodyId.{BodyId}
use Rattle.name_table.specs.declared.style.Style.{Style}
use Rattle.bst_meaning.specs.declared.condition.Cond.{Cond}
use Rattle.bst_meaning.specs.declared.value.Target.{Target}
use Rattle.cert_format.specs.declared.cert.Cert.{Cert}
use Rattle.cert_format.specs.declared.cert.Loop.{Loop}
use Rattle.sym_state.specs.State.{State}
use Rattle.sym_state.specs.Cases.{Labelled, above_of}
use Rattle.sym_state.specs.Demands.{One, one_of}
use Rattle.sym_state.specs.Starting.{started}
use Rattle.sym_state.specs.WellMade.{HasBounds}
use Rattle.sym_state.specs.declared.hint.Hint.{Hint}
use Rattle.sym_state.specs.declared.piece.Piece.{Piece}
use Rattle.sym_state.specs.declared.symbol.Kinds.TheVariants.{Int}
use Rattle.sym_state.specs.declared.symbol.Sym.{Sym}
use Rattle.sym_state.proofs.Below.{AreBelow}
use Rattle.sym_state.proofs.Frames.{all_reversed}
use Rattle.sym_state.proofs.Resulting.{rest_made}
use Rattle.cert_check.specs.declared.refusal.Reason.TheVariants.{NoMemory}
use Rattle.cert_check.specs.declared.refusal.Refusal.{Refusal}
use Rattle.cert_check.specs.Certified.{IsCertified, IsLoopOf, IsPieceOf, MakesLoops}
use Rattle.cert_check.specs.Courses.{Course, Walk, placed}
use Rattle.cert_check.specs.Given.{Refused, Takes}
use Rattle.cert_check.specs.Room.{HasRoom}
use Rattle.cert_check.specs.Units.{all_tested, all_turned, beginning, body_of, loop_checked, loop_checked_at, none_left, place_of, target_entered, tested, turn, turn_state, turned, turned_from}
use Rattle.cert_check.specs.Walks.{Make, Scope}
use Rattle.cert_check.proofs.Inverted.{placed_ok}
use Rattle.cert_check.proofs.PieceUses.{turn_room as case_room}
use Rattle.cert_check.proofs.RoomLeft.{cases_room, room_on, target_leaves, target_room}
use Rattle.cert_check.proofs.LoopTurns.{one_ok}
use Rattle.cert_check.proofs.UnitSteps.{Checks, unit_at_checks}
use Rattle.cert_check.proofs.Walked.{found_one}
use Rattle.cert_check.proofs.WalkSteps.{then_goes, wanted_same}

-- the state with which a turn starts
pub turn_room : (scope : Scope) (case : Piece) (whole entry : Bool) (state : State) → IsSound scope.style → IsCertified scope.style scope.cert → IfSome scope.make (MakesLoops scope.style)
    → IsPieceOf scope.style entry case → state ≡ started scope.style scope.cert.cond (case ∷ []) whole entry → HasRoom scope.style 129 0 state
turn_room scope case whole entry state sound cert makes is same =
    subst (HasRoom scope.style 129 0) (sym same) (case_room scope case whole entry 0 sound cert.fields is)

pub held_same : {E : Type 0} (wanted : State) (r : Result State E) (given : Result State Refusal) → MatchResult given (λ s. r ≡ Ok s) (λ refusal. refusal.reason ≡ NoMemory)
    → ((state : State) → r ≡ Ok state → state ≡ wanted) → MatchResult given (λ s. s ≡ wanted) (λ refusal. refusal.reason ≡ NoMemory)
held_same {E} wanted r (Ok state) held is = is state held
held_same {E} wanted r (Err refusal) held is = held

pub held_room : {E : Type 0} (P : State → Type 0) (r : Result State E) (given : Result State Refusal)
    → MatchResult given (λ s. r ≡ Ok s) (λ refusal. refusal.reason ≡ NoMemory) → ((state : State) → r ≡ Ok state → P state) → IfOk given P
held_room {E} P r (Ok state) held is = is state held
held_room {E} P r (Err refusal) held is = tt

-- cases of a loop, one after the other
pub next_turned : (scope : Scope) (place : Place) (one : Loop) (cases rest : List Piece) (case : Piece) (course mid : Course) (whole : Walk)
    → cases ≡ case ∷ rest → turned_from scope place one cases course ≡ whole → turn scope place one (turn_state scope one case) course ≡ Ok mid
    → turned_from scope place one rest mid ≡ whole
next_turned scope place one cases rest case course mid whole is left e =
    sym (then_goes (turn scope place one (turn_state scope one case) course) (turned_from scope place one rest) mid e)
    ∙ sym (ap (λ (l : List Piece). turned_from scope place one l course) is) ∙ left

pub turn_refused : (scope : Scope) (place : Place) (one : Loop) (cases rest : List Piece) (case : Piece) (course : Course) (whole : Walk) (refusal : Refusal)
    → cases ≡ case ∷ rest → turned_from scope place one cases course ≡ whole → Refused (turn scope place one (turn_state scope one case) course) refusal
    → Refused whole refusal
turn_refused scope place one cases rest case course whole refusal is left refused differs =
    sym left ∙ ap (λ (l : List Piece). turned_from scope place one l course) is
    ∙ ap (λ (w : Walk). then_do w (turned_from scope place one rest)) (refused differs)

-- a state at the test's end, of which these are the cases
pub tested_takes : {T : Type 0} (scope : Scope) (place : Place) (one : Loop) (state : State) (course mid after : Course) (cases : List (Bool × State)) (result : Result T Refusal)
    → tested scope place one state course ≡ all_turned scope place one cases mid → Takes (all_turned scope place one cases mid) after result
    → Takes (tested scope place one state course) after result
tested_takes {T} scope place one state course mid after cases result is takes =
    wanted_same (tested scope place one state course) (all_turned scope place one cases mid) after result is takes

-- what a target leaves, which is taken
pub left_room : (scope : Scope) (place : Place) (target : Target) (more : ℕ) (state : State) (course mid fresh : Course) (states : List State) → IsSound scope.style
    → IsCertified scope.style scope.cert → IfSome scope.make (MakesLoops scope.style) → HasRoom scope.style (more + 64) course.count state → course.given ≡ [] → target_entered scope place target state course ≡ Ok mid
    → states ≡ mid.given → fresh ≡ record mid { given = [] } → All (HasRoom scope.style more fresh.count) states
left_room scope place target more state course mid fresh states sound cert makes room none e are is =
    subst (λ (l : List State). All (HasRoom scope.style more fresh.count) l) (sym are)
    (subst (λ (n : ℕ). All (HasRoom scope.style more n) mid.given) (sym (ap (λ (c : Course). c.count) is))
    (target_leaves scope place target more state course mid sound cert makes room none e))

pub left_bounds : (scope : Scope) (place : Place) (target : Target) (state : State) (course mid fresh : Course) (states : List State) → IsSound scope.style
    → IsCertified scope.style scope.cert → IfSome scope.make (MakesLoops scope.style) → HasRoom scope.style 64 course.count state → course.given ≡ [] → target_entered scope place target state course ≡ Ok mid
    → states ≡ mid.given → fresh ≡ record mid { given = [] } → All HasBounds states
left_bounds scope place target state course mid fresh states sound cert makes room none e are is =
    All-weaker (HasRoom scope.style 0 fresh.count) HasBounds (λ inner there. there.made.bounds) states
    (left_room scope place target 0 state course mid fresh states sound cert makes room none e are is)

pub turned_rises : {T : Type 0} (scope : Scope) (place : Place) (target : Target) (state : State) (course mid fresh after : Course) (r : Result T Refusal)
    → IsSound scope.style → IsCertified scope.style scope.cert → IfSome scope.make (MakesLoops scope.style) → HasRoom scope.style 64 course.count state → target_entered scope place target state course ≡ Ok mid
    → fresh ≡ record mid { given = [] } → OnOk r (after ≡ record fresh { hints = after.hints }) → OnOk r (course.count ≤ after.count)
turned_rises {T} scope place target state course mid fresh after (Ok x) sound cert makes room e is rest =
    let rises = (target_room scope place target state course mid sound cert makes room e).count in
    let same : after.count ≡ fresh.count = ap (λ (c : Course). c.count) rest in
    let left : fresh.count ≡ mid.count = ap (λ (c : Course). c.count) is in
    omega (arith, rises, same, left)
turned_rises {T} scope place target state course mid fresh after (Err refusal) sound cert makes room e is rest = rest

-- states at the test's end, one after the other
pub next_tested : (scope : Scope) (place : Place) (one : Loop) (states rest : List State) (state : State) (course mid : Course) (whole : Walk) → states ≡ state ∷ rest
    → all_tested scope place one states course ≡ whole → tested scope place one state course ≡ Ok mid → all_tested scope place one rest mid ≡ whole
next_tested scope place one states rest state course mid whole is left e =
    sym (then_goes (tested scope place one state course) (all_tested scope place one rest) mid e)
    ∙ sym (ap (λ (l : List State). all_tested scope place one l course) is) ∙ left

pub first_of : (P : State → Type 0) (states rest : List State) (state : State) → states ≡ state ∷ rest → All P states → P state
first_of P states rest state is room = All-head P state rest (subst (All P) is room)

pub rest_of : (style : Style) (more low high : ℕ) (states rest : List State) (state : State) → states ≡ state ∷ rest → low ≤ high
    → All (HasRoom style more low) states → All (HasRoom style more high) rest
rest_of style more low high states rest state is rises room =
    let P : State → Type 0 = HasRoom style more low in
    All-weaker P (HasRoom style more high) (λ inner there. room_on style more more low high inner (omega arith) rises there) rest
    (All-tail P state rest (subst (All P) is room))

-- the cases of the integer on top
pub signs_room : (style : Style) (admits : Cond) (place : Place) (state : State) (one : One) (hints : List Hint) (labelled : Labelled) (count : ℕ)
    → HasRoom style 65 count state → placed place (one_of Int state) ≡ Ok one → placed place (above_of admits one.rest one.operand hints) ≡ Ok labelled
    → All (λ case. HasRoom style 64 count case.1) labelled.cases
signs_room style admits place state one hints labelled count room taken split =
    let found = one_ok state (reverse state.stack) one (placed_ok place (one_of Int state) one taken) in
    let met = found.0 in
    let below = subst (AreBelow state) met.on_top (all_reversed state.next state.stack room.made.stack) in
    let P : Sym → Type 0 = λ s. s.0 < state.next in
    let popped : State = record state { stack = reverse met.rest } in
    let roomy : HasRoom style 65 count popped = record { made = rest_made style state met.rest room.made (All-tail P met.operand met.rest below); few = room.few } in
    let cases : above_of admits popped met.operand hints ≡ Ok labelled =
    ap (λ (t : One). above_of admits t.rest t.operand hints) (sym found.1) ∙ placed_ok place (above_of admits one.rest one.operand hints) labelled split in
    cases_room style admits popped met.operand hints labelled count (All-head P met.operand met.rest below) roomy cases

abbrev weighed : Scope → Place → One → Course → Result Labelled Refusal
weighed scope place one course = placed place (above_of scope.cert.cond one.rest one.operand course.hints)

abbrev onward : Scope → Place → Loop → Course → Result Labelled Refusal → Walk
onward scope place turns course w = then_do w (λ labelled. all_turned scope place turns labelled.cases (record course { hints = labelled.hints }))

tested_is : (scope : Scope) (place : Place) (turns : Loop) (state : State) (course : Course) (one : One) → placed place (one_of Int state) ≡ Ok one
    → tested scope place turns state course ≡ onward scope place turns course (weighed scope place one course)
tested_is scope place turns state course one e =
    ap (λ (w : Result One Refusal). then_do w (λ taken. onward scope place turns course (weighed scope place taken course))) e

pub signs_take : {T : Type 0} (items : T → List (Bool × State)) (scope : Scope) (place : Place) (turns : Loop) (state : State) (course mid : Course) (one : One)
    (r : Result T Refusal) → placed place (one_of Int state) ≡ Ok one
    → MatchResult r (λ cases. weighed scope place one course ≡ Ok (record { cases = items cases; hints = mid.hints })) (Refused (weighed scope place one course))
    → mid ≡ record course { hints = mid.hints }
    → MatchResult r (λ cases. tested scope place turns state course ≡ all_turned scope place turns (items cases) mid) (Refused (tested scope place turns state course))
signs_take {T} items scope place turns state course mid one (Ok cases) e shown is =
    tested_is scope place turns state course one e ∙ ap (onward scope place turns course) shown ∙ ap (all_turned scope place turns (items cases)) (sym is)
signs_take {T} items scope place turns state course mid one (Err refusal) e refused is =
    λ differs. tested_is scope place turns state course one e ∙ ap (onward scope place turns course) (refused differs)

pub signs_have : {T : Type 0} (items : T → List (Bool × State)) (style : Style) (admits : Cond) (place : Place) (state : State) (hints left : List Hint) (one : One)
    (count : ℕ) (r : Result T Refusal) → HasRoom style 65 count state → placed place (one_of Int state) ≡ Ok one
    → MatchResult r (λ cases. placed place (above_of admits one.rest one.operand hints) ≡ Ok (record { cases = items cases; hints = left }))
    (Refused (placed place (above_of admits one.rest one.operand hints)))
    → IfOk r (λ cases. All (λ case. HasRoom style 64 count case.1) (items cases))
signs_have {T} items style admits place state hints left one count (Ok cases) room e shown =
    signs_room style admits place state one hints (record { cases = items cases; hints = left }) count room e shown
signs_have {T} items style admits place state hints left one count (Err refusal) room e shown = tt

-- its cases, one after the other
pub next_sign : (scope : Scope) (place : Place) (one : Loop) (cases rest : List (Bool × State)) (above : Bool) (state : State) (course mid : Course) (whole : Walk)
    → cases ≡ (above, state) ∷ rest → all_turned scope place one cases course ≡ whole → turned scope place one above state course ≡ Ok mid
    → all_turned scope place one rest mid ≡ whole
next_sign scope place one cases rest above state course mid whole is left e =
    sym (then_goes (turned scope place one above state course) (all_turned scope place one rest) mid e)
    ∙ sym (ap (λ (l : List (Bool × State)). all_turned scope place one l course) is) ∙ left

pub first_sign : (style : Style) (count : ℕ) (cases rest : List (Bool × State)) (above : Bool) (state : State) → cases ≡ (above, state) ∷ rest
    → All (λ case. HasRoom style 64 count case.1) cases → HasRoom style 64 count state
first_sign style count cases rest above state is room =
    let P : (Bool × State) → Type 0 = λ case. HasRoom style 64 count case.1 in All-head P (above, state) rest (subst (All P) is room)

pub rest_signs : (style : Style) (low high : ℕ) (cases rest : List (Bool × State)) (case : Bool × State) → cases ≡ case ∷ rest → low ≤ high
    → All (λ case. HasRoom style 64 low case.1) cases → All (λ case. HasRoom style 64 high case.1) rest
rest_signs style low high cases rest case is rises room =
    let P : (Bool × State) → Type 0 = λ case. HasRoom style 64 low case.1 in
    All-weaker P (λ case. HasRoom style 64 high case.1) (λ inner there. room_on style 64 64 low high inner.1 (omega arith) rises there) rest
    (All-tail P case rest (subst (All P) is room))

-- the loop of a number
pub loop_checks : {T : Type 0} (style : Style) (cert : Cert) (k : ℕ) (scope : Scope) (one : Loop) (result : Result T Refusal) → Some one ≡ slice_get cert.loops k
    → scope.style ≡ style → scope.cert ≡ cert → Checks (loop_checked scope.style scope.cert one) result → Checks (loop_checked_at style cert k) result
loop_checks {T} style cert k = unit_at_checks loop_checked style cert cert.loops k

pub no_loop : (style : Style) (cert : Cert) (k : ℕ) → None ≡ slice_get cert.loops k → loop_checked_at style cert k ≡ Ok []
no_loop style cert k found = ap (λ (o : Option Loop). option_map_or (loop_checked style cert) o (Ok [])) (sym found)

pub loop_is : (style : Style) (cert : Cert) (k : ℕ) (one : Loop) → IsCertified style cert → Some one ≡ slice_get cert.loops k → IsLoopOf style one
loop_is style cert k one certified found =
    subst (λ (o : Option Loop). IfSome o (IsLoopOf style)) (sym found) (found_one (IsLoopOf style) cert.loops k certified.loops)

-- the check of a loop from its parts
pub record AreLoopParts (scope : Scope) (one : Loop) (place : Place) (course : Course) : Type 0 where
  pub writes : scope.writes ≡ Some one.writes
  pub unmade : scope.make ≡ None
  pub place_is : place ≡ place_of scope.style (body_of scope.style one.body)
  pub course_is : course ≡ beginning one.hints

pub loop_parts : (scope : Scope) (one : Loop) (first second : Style) (body : Option BodyId) (place : Place) (hints : List Hint) (course : Course)
    → scope.writes ≡ Some one.writes → scope.make ≡ None → first ≡ scope.style → second ≡ scope.style → body ≡ body_of first one.body
    → place ≡ place_of second body → hints ≡ one.hints → course ≡ beginning hints → AreLoopParts scope one place course
loop_parts scope one first second body place hints course writes unmade same_first same_second body_is place_is same_hints course_is = record {
  writes = writes;
  unmade = unmade;
  place_is = place_is ∙ ap (λ (style : Style). place_of style body) same_second
      ∙ ap (place_of scope.style) (body_is ∙ ap (λ (style : Style). body_of style one.body) same_first);
  course_is = course_is ∙ ap beginning same_hints;
}

parts_are : (scope : Scope) (one : Loop) (place : Place) (course : Course) → AreLoopParts scope one place course
    → loop_checked scope.style scope.cert one ≡ then_do (turned_from scope place one one.cases course) (λ after. none_left place after.hints)
parts_are scope one place course parts =
    let at : Place = place_of scope.style (body_of scope.style one.body) in
    ap (λ (w : Option (List NameId)). let s : Scope = record { style = scope.style; cert = scope.cert; writes = w; make = None } in
    then_do (turned_from s at one one.cases (beginning one.hints)) (λ after. none_left at after.hints)) (sym parts.writes)
    ∙ ap (λ (m : Option Make). let s : Scope = record { style = scope.style; cert = scope.cert; writes = scope.writes; make = m } in
    then_do (turned_from s at one one.cases (beginning one.hints)) (λ after. none_left at after.hints)) (sym parts.unmade)
    ∙ ap (λ (p : Place). then_do (turned_from scope p one one.cases (beginning one.hints)) (λ after. none_left p after.hints)) (sym parts.place_is)
    ∙ ap (λ (c : Course). then_do (turned_from scope place one one.cases c) (λ after. none_left place after.hints)) (sym parts.course_is)

pub loop_refused : (scope : Scope) (one : Loop) (place : Place) (course : Course) (cases : List Piece) (refusal : Refusal) → AreLoopParts scope one place course
    → cases ≡ one.cases → Refused (turned_from scope place one cases course) refusal → Refused (loop_checked scope.style scope.cert one) refusal
loop_refused scope one place course cases refusal parts same refused differs =
    parts_are scope one place course parts
    ∙ ap (λ (l : List Piece). then_do (turned_from scope place one l course) (λ after. none_left place after.hints)) (sym same)
    ∙ ap (λ (w : Walk). then_do w (λ after. none_left place after.hints)) (refused differs)

pub loop_takes : {T : Type 0} (scope : Scope) (one : Loop) (place : Place) (course after : Course) (cases : List Piece) (result : Result T Refusal)
    → AreLoopParts scope one place course → cases ≡ one.cases → turned_from scope place one cases course ≡ Ok after → Checks (none_left place after.hints) result
    → Checks (loop_checked scope.style scope.cert one) result
loop_takes {T} scope one place course after cases result parts same e checks =
    subst (λ (r : Result (List Hint) Refusal). Checks r result)
    (sym (parts_are scope one place course parts
    ∙ ap (λ (l : List Piece). then_do (turned_from scope place one l course) (λ after. none_left place after.hints)) (sym same)
    ∙ ap (λ (w : Walk). then_do w (λ after. none_left place after.hints)) e))
    checks
