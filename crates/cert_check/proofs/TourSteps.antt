-- What the steps of a turn come to whose hints are found.
use Rattle.std.proofs.Common.{◌≡◌, ℕ, ◌≤◌, Bool, true, false, List, [], ◌∷◌, OnOk, Result, Ok, Err, refl, sym, ap, subst, ◌∙◌, arith, IfSome}
use Rattle.std.specs.List.{All}
use Rattle.std.specs.Result.{MatchResult}
use Rattle.std.proofs.lemmas.List.Elements.{All-append, All-cons, All-head, All-nil, All-tail, All-weaker}
use Rattle.std.proofs.lemmas.Result.{on_ok_weaker}
use Rattle.bv_base.specs.Answers.{then_do}
use Rattle.bv_base.specs.declared.place.Place.{Place}
use Rattle.name_table.specs.Sound.{Each, IsSound}
use Rattle.name_table.specs.declared.style.Style.{Style}
use Rattle.bst_meaning.specs.declared.condition.Cond.{Cond}
use Rattle.bst_meaning.specs.declared.value.Target.{Target}
use Rattle.cert_format.specs.CertText.{IsHint}
use Rattle.sym_state.specs.State.{State}
use Rattle.sym_state.specs.Cases.{Labelled, above_of}
use Rattle.sym_state.specs.Demands.{One, Three, one_of}
use Rattle.sym_state.specs.Starting.{started}
use Rattle.sym_state.specs.declared.hint.Hint.{Hint}
use Rattle.sym_state.specs.declared.piece.Piece.{Piece}
use Rattle.sym_state.specs.declared.symbol.Kinds.TheVariants.{Int}
use Rattle.cert_check.specs.declared.limits.TheConstants.{MOST_COUNT}
use Rattle.cert_check.specs.declared.refusal.Reason.TheVariants.{NoMemory}
use Rattle.cert_check.specs.declared.refusal.Refusal.{Refusal}
use Rattle.cert_check.specs.declared.tours.Ended.{Ended}
use Rattle.cert_check.specs.declared.tours.Tour.{Tour}
use Rattle.cert_check.specs.declared.tours.Turning.{Turning}
use Rattle.cert_check.specs.Certified.{IsCertified, MakesLoops}
use Rattle.cert_check.specs.Courses.{Course, Walk, behind, placed}
use Rattle.cert_check.specs.Given.{AreCases, GoesOn, Refused, Takes}
use Rattle.cert_check.specs.Room.{HasRoom, IsEnd}
use Rattle.cert_check.specs.Tours.{GivesNone, HasEnds, IsEnded, KeepsTour, Signed, Toured, all_ended, all_tests_ended, all_turned_or_left, ended, signed, test_ended, turn_ended, turn_from, turn_of, turned_or_left}
use Rattle.cert_check.specs.Units.{body_of, place_of, target_entered}
use Rattle.cert_check.specs.Walks.{Call, Enter, Scope, cases_entered, choice, hints_of_choice}
use Rattle.cert_check.proofs.RoomLeft.{target_leaves, target_room}
use Rattle.cert_check.proofs.TurnSteps.{signs_room}

-- the cases of `if$` are entered behind those of its integer
abbrev signed_by : List Hint → Course → Result Labelled Refusal → Result Signed Refusal
signed_by hints course w = then_do w (λ labelled. Ok (record { cases = labelled.cases; course = behind hints labelled.hints course }))

abbrev entered_behind : Scope → Enter → Call → Place → Three → Result Signed Refusal → Walk
entered_behind scope enter call place three w = then_do w (λ found. cases_entered scope enter call place three found.cases found.course)

after_signs : (scope : Scope) (enter : Enter) (call : Call) (place : Place) (three : Three) (hints : List Hint) (course : Course) (w : Result Labelled Refusal)
    → then_do w (λ labelled. cases_entered scope enter call place three labelled.cases (behind hints labelled.hints course))
    ≡ entered_behind scope enter call place three (signed_by hints course w)
after_signs scope enter call place three hints course (Ok labelled) = refl
after_signs scope enter call place three hints course (Err refusal) = refl

choice_is : (scope : Scope) (enter : Enter) (call : Call) (place : Place) (three : Three) (course : Course)
    → choice scope enter call place three course ≡ entered_behind scope enter call place three (signed scope place three.rest three.lowest course)
choice_is scope enter call place three course =
    let hints = hints_of_choice scope three course in
    after_signs scope enter call place three hints course (placed place (above_of scope.cert.cond three.rest three.lowest hints))

pub choice_goes : {T : Type 0} (items : T → List (Bool × State)) (scope : Scope) (enter : Enter) (call : Call) (place : Place) (three : Three)
    (course after : Course) (r : Result T Refusal)
    → GoesOn (signed scope place three.rest three.lowest course) (λ cases. Ok (record { cases = items cases; course = after })) r
    → GoesOn (choice scope enter call place three course) (λ cases. cases_entered scope enter call place three (items cases) after) r
choice_goes {T} items scope enter call place three course after (Ok cases) goes =
    choice_is scope enter call place three course ∙ ap (entered_behind scope enter call place three) goes
choice_goes {T} items scope enter call place three course after (Err refusal) refused =
    λ differs. choice_is scope enter call place three course ∙ ap (entered_behind scope enter call place three) (refused differs)

-- a state at the test's end, of which these are the cases
abbrev split_on : Scope → Place → Turning → Tour → Result Signed Refusal → Toured
split_on scope place one tour w = then_do w (λ by_sign. all_turned_or_left scope place one by_sign.cases (record tour { course = by_sign.course }))

test_is : (scope : Scope) (place : Place) (one : Turning) (state : State) (tour : Tour) (taken : One) → placed place (one_of Int state) ≡ Ok taken
    → test_ended scope place one state tour ≡ split_on scope place one tour (signed scope place taken.rest taken.operand tour.course)
test_is scope place one state tour taken e =
    ap (λ (w : Result One Refusal). then_do w (λ found. split_on scope place one tour (signed scope place found.rest found.operand tour.course))) e

pub test_takes : {T : Type 0} (scope : Scope) (place : Place) (one : Turning) (state : State) (tour after : Tour) (taken : One) (cases : List (Bool × State))
    (mid : Course) (r : Result T Refusal) → placed place (one_of Int state) ≡ Ok taken
    → signed scope place taken.rest taken.operand tour.course ≡ Ok (record { cases = cases; course = mid })
    → Takes (all_turned_or_left scope place one cases (record tour { course = mid })) after r → Takes (test_ended scope place one state tour) after r
test_takes {T} scope place one state tour after taken cases mid r e split takes =
    subst (λ (w : Toured). Takes w after r) (sym (test_is scope place one state tour taken e ∙ ap (split_on scope place one tour) split)) takes

pub test_refused : (scope : Scope) (place : Place) (one : Turning) (state : State) (tour : Tour) (taken : One) (refusal : Refusal)
    → placed place (one_of Int state) ≡ Ok taken → Refused (signed scope place taken.rest taken.operand tour.course) refusal
    → Refused (test_ended scope place one state tour) refusal
test_refused scope place one state tour taken refusal e refused differs =
    test_is scope place one state tour taken e ∙ ap (split_on scope place one tour) (refused differs)

pub split_room : (style : Style) (admits : Cond) (place : Place) (state : State) (one : One) (cases : List (Bool × State)) (count : ℕ)
    → HasRoom style 65 count state → placed place (one_of Int state) ≡ Ok one → AreCases admits one.rest one.operand cases
    → All (λ case. HasRoom style 64 count case.1) cases
split_room style admits place state one cases count room taken split =
    signs_room style admits place state one split.hints (record { cases = cases; hints = split.left }) count room taken (ap (placed place) split.are)

-- states at the test's end, one after the other
pub next_test : (scope : Scope) (place : Place) (one : Turning) (states rest : List State) (state : State) (tour mid : Tour) (whole : Toured)
    → states ≡ state ∷ rest → all_tests_ended scope place one states tour ≡ whole → test_ended scope place one state tour ≡ Ok mid
    → all_tests_ended scope place one rest mid ≡ whole
next_test scope place one states rest state tour mid whole is left e =
    sym (ap (λ (w : Toured). then_do w (all_tests_ended scope place one rest)) e)
    ∙ sym (ap (λ (l : List State). all_tests_ended scope place one l tour) is) ∙ left

-- the cases of the integer, one after the other
pub next_case : (scope : Scope) (place : Place) (one : Turning) (cases rest : List (Bool × State)) (above : Bool) (state : State) (tour mid : Tour) (whole : Toured)
    → cases ≡ (above, state) ∷ rest → all_turned_or_left scope place one cases tour ≡ whole → turned_or_left scope place one above state tour ≡ Ok mid
    → all_turned_or_left scope place one rest mid ≡ whole
next_case scope place one cases rest above state tour mid whole is left e =
    sym (ap (λ (w : Toured). then_do w (all_turned_or_left scope place one rest)) e)
    ∙ sym (ap (λ (l : List (Bool × State)). all_turned_or_left scope place one l tour) is) ∙ left

-- states at the end of a turn, one after the other
pub next_end : (turned : Bool) (states rest : List State) (state : State) (tour mid whole : Tour) → states ≡ state ∷ rest
    → all_ended turned states tour ≡ whole → mid ≡ ended turned state tour → all_ended turned rest mid ≡ whole
next_end turned states rest state tour mid whole is left e =
    ap (all_ended turned rest) e ∙ sym (ap (λ (l : List State). all_ended turned l tour) is) ∙ left

-- a state at an end
end_of : (style : Style) (more count : ℕ) (state : State) → count ≤ MOST_COUNT → HasRoom style more count state → IsEnd style state
end_of style more count state most room = let few = room.few in record { made = room.made; few = omega (arith, few, most) }

one_ends : (style : Style) (turned : Bool) (state : State) (tour : Tour) → IsEnd style state → Each IsHint tour.course.found → HasEnds style tour
    → HasEnds style (ended turned state tour)
one_ends style turned state tour is written ends =
    let end : Ended = record { hints = tour.course.found; turned = turned; state = state } in
    All-append (IsEnded style) tour.ends (end ∷ []) ends
    (All-cons (IsEnded style) end [] (record { state = is; hints = written }) (All-nil (IsEnded style)))

all_end_so : (style : Style) (turned : Bool) (states : List State) (tour : Tour) → All (IsEnd style) states → Each IsHint tour.course.found → HasEnds style tour
    → HasEnds style (all_ended turned states tour)
all_end_so style turned [] tour are written ends = ends
all_end_so style turned (state ∷ states) tour are written ends =
    all_end_so style turned states (ended turned state tour) (All-tail (IsEnd style) state states are) tt
    (one_ends style turned state tour (All-head (IsEnd style) state states are) written ends)

-- what the ends leave of the course
pub none_ended : (turned : Bool) (states : List State) (tour : Tour) → GivesNone tour → GivesNone (all_ended turned states tour)
none_ended turned [] tour none = none
none_ended turned (state ∷ states) tour none = none_ended turned states (ended turned state tour) none

pub count_ended : (turned : Bool) (states : List State) (tour : Tour) → (all_ended turned states tour).course.count ≡ tour.course.count
count_ended turned [] tour = refl
count_ended turned (state ∷ states) tour = count_ended turned states (ended turned state tour)

-- what the body leaves: its states have room, and the course gives none and counts on
pub record BodyLeft (style : Style) (tour after : Tour) (mid : Course) : Type 0 where
  pub none : GivesNone after
  pub count : tour.course.count ≤ after.course.count
  pub room : All (HasRoom style 0 mid.count) mid.given

pub body_leaves : (scope : Scope) (place : Place) (one : Turning) (state : State) (tour : Tour) (mid : Course) → IsSound scope.style
    → IsCertified scope.style scope.cert → IfSome scope.make (MakesLoops scope.style) → HasRoom scope.style 64 tour.course.count state → GivesNone tour
    → target_entered scope place one.body state tour.course ≡ Ok mid → BodyLeft scope.style tour (turn_ended tour.ends mid) mid
body_leaves scope place one state tour mid sound cert makes room none e =
    let start : Tour = record { course = record mid { given = [] }; ends = tour.ends } in
    let rises = (target_room scope place one.body state tour.course mid sound cert makes room e).count in
    let same = count_ended true mid.given start in
    record {
      none = none_ended true mid.given start refl;
      count = omega (arith, rises, same);
      room = target_leaves scope place one.body 0 state tour.course mid sound cert makes room none e;
    }

-- what the body leaves has turned
pub turned_keeps : (scope : Scope) (place : Place) (one : Turning) (state : State) (tour : Tour) (mid : Course) → IsSound scope.style
    → IsCertified scope.style scope.cert → IfSome scope.make (MakesLoops scope.style) → HasRoom scope.style 64 tour.course.count state → GivesNone tour
    → target_entered scope place one.body state tour.course ≡ Ok mid → mid.count ≤ MOST_COUNT → Each IsHint mid.found
    → KeepsTour scope.style tour (turn_ended tour.ends mid)
turned_keeps scope place one state tour mid sound cert makes room none e most written =
    let left = body_leaves scope place one state tour mid sound cert makes room none e in
    record {
      none = left.none;
      count = left.count;
      ends = all_end_so scope.style true mid.given (record { course = record mid { given = [] }; ends = tour.ends })
          (All-weaker (HasRoom scope.style 0 mid.count) (IsEnd scope.style) (λ inner there. end_of scope.style 0 mid.count inner most there) mid.given left.room)
          written;
    }

-- a state leaves
pub left_keeps : (style : Style) (state : State) (tour : Tour) → HasRoom style 64 tour.course.count state → GivesNone tour → tour.course.count ≤ MOST_COUNT
    → Each IsHint tour.course.found → KeepsTour style tour (ended false state tour)
left_keeps style state tour room none most written = record {
  none = none;
  count = omega arith;
  ends = one_ends style false state tour (end_of style 64 tour.course.count state most room) written;
}

-- what is kept on the way is kept in the end
pub kept_on : (style : Style) (first second third : Tour) → KeepsTour style first second → KeepsTour style second third → KeepsTour style first third
kept_on style first second third here later =
    let low = here.count in
    let high = later.count in
    record { none = later.none; count = omega (arith, low, high); ends = λ ends. later.ends (here.ends ends) }

pub kept_from : {T : Type 0} (style : Style) (tour after : Tour) (mid : Course) (r : Result T Refusal) → tour.course.count ≤ mid.count
    → OnOk r (KeepsTour style (record tour { course = mid }) after) → OnOk r (KeepsTour style tour after)
kept_from {T} style tour after mid r rises =
    on_ok_weaker r (λ kept. let high = kept.count in record { none = kept.none; count = omega (arith, rises, high); ends = kept.ends })

-- what a case of the integer comes to
pub turned_kept : {T : Type 0} (scope : Scope) (place : Place) (one : Turning) (state : State) (tour after : Tour) (mid : Course) (r : Result T Refusal)
    → IsSound scope.style → IsCertified scope.style scope.cert → IfSome scope.make (MakesLoops scope.style) → HasRoom scope.style 64 tour.course.count state → GivesNone tour
    → target_entered scope place one.body state tour.course ≡ Ok mid → mid.count ≤ MOST_COUNT → Each IsHint mid.found
    → MatchResult r (λ _. after ≡ turn_ended tour.ends mid) (λ refusal. refusal.reason ≡ NoMemory) → OnOk r (KeepsTour scope.style tour after)
turned_kept {T} scope place one state tour after mid (Ok x) sound cert makes room none e most written is =
    subst (KeepsTour scope.style tour) (sym is) (turned_keeps scope place one state tour mid sound cert makes room none e most written)
turned_kept {T} scope place one state tour after mid (Err refusal) sound cert makes room none e most written is = tt

pub left_kept : {T : Type 0} (style : Style) (state : State) (tour after : Tour) (r : Result T Refusal) → HasRoom style 64 tour.course.count state → GivesNone tour
    → tour.course.count ≤ MOST_COUNT → Each IsHint tour.course.found
    → MatchResult r (λ _. after ≡ ended false state tour) (λ refusal. refusal.reason ≡ NoMemory) → OnOk r (KeepsTour style tour after)
left_kept {T} style state tour after (Ok x) room none most written is = subst (KeepsTour style tour) (sym is) (left_keeps style state tour room none most written)
left_kept {T} style state tour after (Err refusal) room none most written is = tt

-- a turn behind the state that a case starts
pub turn_takes : {T : Type 0} (scope : Scope) (one : Turning) (case : Piece) (tour after : Tour) (place : Place) (state : State) (r : Result T Refusal)
    → place ≡ place_of scope.style (body_of scope.style one.body) → state ≡ started scope.style scope.cert.cond (case ∷ []) one.whole one.entry
    → Takes (turn_from scope place one state tour) after r → Takes (turn_of scope one case tour) after r
turn_takes {T} scope one case tour after place state r at starts takes =
    subst (λ (p : Place). Takes (turn_from scope p one (started scope.style scope.cert.cond (case ∷ []) one.whole one.entry) tour) after r) at
    (subst (λ (s : State). Takes (turn_from scope place one s tour) after r) starts takes)

-- the count behind a target that is entered
pub entered_rises : (scope : Scope) (place : Place) (target : Target) (state : State) (course mid fresh : Course) → IsSound scope.style
    → IsCertified scope.style scope.cert → IfSome scope.make (MakesLoops scope.style) → HasRoom scope.style 64 course.count state → target_entered scope place target state course ≡ Ok mid
    → fresh ≡ record mid { given = [] } → course.count ≤ fresh.count
entered_rises scope place target state course mid fresh sound cert makes room e is =
    let rises = (target_room scope place target state course mid sound cert makes room e).count in
    let left : fresh.count ≡ mid.count = ap (λ (c : Course). c.count) is in
    omega (arith, rises, left)
