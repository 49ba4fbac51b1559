-- The states at the ends of turns are well made.
use Rattle.std.proofs.Common.{◌≡◌, ℕ, ◌≤◌, Bool, true, false, List, [], ◌∷◌, IfSome, Ok, refl, sym, subst, arith}
use Rattle.std.specs.List.{All}
use Rattle.std.proofs.lemmas.List.Elements.{All-append, All-cons, All-head, All-nil, All-tail, All-weaker}
use Rattle.bv_base.specs.declared.place.Place.{Place}
use Rattle.bv_base.proofs.ThenLemmas.{ok_is, then_ok}
use Rattle.name_table.specs.Sound.{IsSound}
use Rattle.name_table.specs.declared.style.Style.{Style}
use Rattle.sym_state.specs.Cases.{above_of}
use Rattle.sym_state.specs.Demands.{One, one_of}
use Rattle.sym_state.specs.Starting.{started}
use Rattle.sym_state.specs.State.{State}
use Rattle.sym_state.specs.WellMade.{WellMade}
use Rattle.sym_state.specs.declared.piece.Piece.{Piece}
use Rattle.sym_state.specs.declared.symbol.Kinds.TheVariants.{Int}
use Rattle.cert_check.specs.Certified.{IsCertified, IsPieceOf, MakesLoops}
use Rattle.cert_check.specs.Courses.{Course, behind, handed, placed}
use Rattle.cert_check.specs.Room.{HasRoom}
use Rattle.cert_check.specs.Tours.{GivesNone, Signed, all_ended, all_tests_ended, all_turned_or_left, ended, signed, test_ended, turn_ended, turn_from, turn_of, turned_or_left, turns_of}
use Rattle.cert_check.specs.Units.{body_of, place_of, target_entered}
use Rattle.cert_check.specs.Walks.{Scope}
use Rattle.cert_check.specs.declared.tours.Ended.{Ended}
use Rattle.cert_check.specs.declared.tours.Tour.{Tour}
use Rattle.cert_check.specs.declared.tours.Turning.{Turning}
use Rattle.straight_hints.specs.Found.{above_hints}
use Rattle.cert_check.proofs.PieceUses.{turn_room}
use Rattle.cert_check.proofs.RoomLeft.{room_on, target_leaves, target_room}
use Rattle.cert_check.proofs.TourSteps.{body_leaves}
use Rattle.cert_check.proofs.TurnSteps.{signs_room}

-- the states at the ends of a tour are well made
abbrev pub HasMadeEnds : Style → Tour → Type 0
HasMadeEnds style tour = All (λ end. WellMade style end.state) tour.ends

-- what turns keep of that: no state is given, and the count doesn't fall
pub record KeepsEnds (style : Style) (before after : Tour) : Type 0 where
  pub none : GivesNone after
  pub count : before.course.count ≤ after.course.count
  pub ends : HasMadeEnds style before → HasMadeEnds style after

self_keeps : (style : Style) (tour : Tour) → GivesNone tour → KeepsEnds style tour tour
self_keeps style tour none = record { none = none; count = omega arith; ends = λ ends. ends }

kept_on : (style : Style) (first second third : Tour) → KeepsEnds style first second → KeepsEnds style second third → KeepsEnds style first third
kept_on style first second third here later =
    let low = here.count in
    let high = later.count in
    record { none = later.none; count = omega (arith, low, high); ends = λ ends. later.ends (here.ends ends) }

-- a state comes to an end, or states do
one_made : (style : Style) (turned : Bool) (state : State) (tour : Tour) → WellMade style state → HasMadeEnds style tour
    → HasMadeEnds style (ended turned state tour)
one_made style turned state tour made ends =
    let P = λ (end : Ended). WellMade style end.state in
    let end : Ended = record { hints = tour.course.found; turned = turned; state = state } in
    All-append P tour.ends (end ∷ []) ends (All-cons P end [] made (All-nil P))

all_made : (style : Style) (turned : Bool) (states : List State) (tour : Tour) → All (WellMade style) states → HasMadeEnds style tour
    → HasMadeEnds style (all_ended turned states tour)
all_made style turned [] tour made ends = ends
all_made style turned (state ∷ states) tour made ends =
    all_made style turned states (ended turned state tour) (All-tail (WellMade style) state states made)
    (one_made style turned state tour (All-head (WellMade style) state states made) ends)

left_keeps : (style : Style) (state : State) (tour : Tour) → WellMade style state → GivesNone tour → KeepsEnds style tour (ended false state tour)
left_keeps style state tour made none = record { none = none; count = omega arith; ends = one_made style false state tour made }

roomy_made : (style : Style) (more count : ℕ) (states : List State) → All (HasRoom style more count) states → All (WellMade style) states
roomy_made style more count states room = All-weaker (HasRoom style more count) (WellMade style) (λ state one. one.made) states room

module _ (scope : Scope) (one : Turning) (sound : IsSound scope.style) (cert : IsCertified scope.style scope.cert)
    (makes : IfSome scope.make (MakesLoops scope.style)) where
  -- the body is entered
  body_keeps : (place : Place) (state : State) (tour : Tour) (mid : Course) → HasRoom scope.style 64 tour.course.count state → GivesNone tour
      → target_entered scope place one.body state tour.course ≡ Ok mid → KeepsEnds scope.style tour (turn_ended tour.ends mid)
  body_keeps place state tour mid room none e =
      let left = body_leaves scope place one state tour mid sound cert makes room none e in
      record {
        none = left.none;
        count = left.count;
        ends = all_made scope.style true mid.given (record { course = record mid { given = [] }; ends = tour.ends })
            (roomy_made scope.style 0 mid.count mid.given left.room);
      }

  -- a case of the test's integer
  case_keeps : (place : Place) (above : Bool) (state : State) (tour after : Tour) → HasRoom scope.style 64 tour.course.count state → GivesNone tour
      → turned_or_left scope place one above state tour ≡ Ok after → KeepsEnds scope.style tour after
  case_keeps place true state tour after room none e =
      let entered = then_ok (target_entered scope place one.body state tour.course) (λ mid. Ok (turn_ended tour.ends mid)) after e in
      subst (KeepsEnds scope.style tour) (sym (ok_is (turn_ended tour.ends entered.0) after entered.2))
      (body_keeps place state tour entered.0 room none entered.1)
  case_keeps place false state tour after room none e =
      subst (KeepsEnds scope.style tour) (sym (ok_is (ended false state tour) after e)) (left_keeps scope.style state tour room.made none)

  -- its cases, in order
  cases_keep : (place : Place) (cases : List (Bool × State)) (tour after : Tour) → All (λ case. HasRoom scope.style 64 tour.course.count case.1) cases
      → GivesNone tour → all_turned_or_left scope place one cases tour ≡ Ok after → KeepsEnds scope.style tour after
  cases_keep place [] tour after room none e = subst (KeepsEnds scope.style tour) (sym (ok_is tour after e)) (self_keeps scope.style tour none)
  cases_keep place (case ∷ cases) tour after room none e =
      let P = λ (count : ℕ) (it : Bool × State). HasRoom scope.style 64 count it.1 in
      let first = then_ok (turned_or_left scope place one case.0 case.1 tour) (all_turned_or_left scope place one cases) after e in
      let kept = case_keeps place case.0 case.1 tour first.0 (All-head (P tour.course.count) case cases room) none first.1 in
      kept_on scope.style tour first.0 after kept
      (cases_keep place cases first.0 after
      (All-weaker (P tour.course.count) (P first.0.course.count)
      (λ it there. room_on scope.style 64 64 tour.course.count first.0.course.count it.1 (omega arith) kept.count there) cases
      (All-tail (P tour.course.count) case cases room))
      kept.none first.2)

  -- a state at the test's end
  test_keeps : (place : Place) (state : State) (tour after : Tour) → HasRoom scope.style 65 tour.course.count state → GivesNone tour
      → test_ended scope place one state tour ≡ Ok after → KeepsEnds scope.style tour after
  test_keeps place state tour after room none e =
      let taken = then_ok (placed place (one_of Int state)) (λ (found : One). _) after e in
      let hints = handed tour.course.finding tour.course.hints (λ finding. above_hints finding scope.cert.cond taken.0.rest taken.0.operand) in
      let split = then_ok (signed scope place taken.0.rest taken.0.operand tour.course) _ after taken.2 in
      let labelled = then_ok (placed place (above_of scope.cert.cond taken.0.rest taken.0.operand hints)) _ split.0 split.1 in
      let by_sign : Signed = record { cases = labelled.0.cases; course = behind hints labelled.0.hints tour.course } in
      let is = ok_is by_sign split.0 labelled.2 in
      let kept = cases_keep place labelled.0.cases (record tour { course = by_sign.course }) after
      (signs_room scope.style scope.cert.cond place state taken.0 hints labelled.0 tour.course.count room taken.1 labelled.1)
      none
      (subst (λ (s : Signed). all_turned_or_left scope place one s.cases (record tour { course = s.course }) ≡ Ok after) is split.2) in
      record { none = kept.none; count = kept.count; ends = kept.ends }

  -- each state at the test's end, in order
  tests_keep : (place : Place) (states : List State) (tour after : Tour) → All (HasRoom scope.style 65 tour.course.count) states → GivesNone tour
      → all_tests_ended scope place one states tour ≡ Ok after → KeepsEnds scope.style tour after
  tests_keep place [] tour after room none e = subst (KeepsEnds scope.style tour) (sym (ok_is tour after e)) (self_keeps scope.style tour none)
  tests_keep place (state ∷ states) tour after room none e =
      let P = λ (count : ℕ). HasRoom scope.style 65 count in
      let first = then_ok (test_ended scope place one state tour) (all_tests_ended scope place one states) after e in
      let kept = test_keeps place state tour first.0 (All-head (P tour.course.count) state states room) none first.1 in
      kept_on scope.style tour first.0 after kept
      (tests_keep place states first.0 after
      (All-weaker (P tour.course.count) (P first.0.course.count)
      (λ it there. room_on scope.style 65 65 tour.course.count first.0.course.count it (omega arith) kept.count there) states
      (All-tail (P tour.course.count) state states room))
      kept.none first.2)

  -- a turn from a state
  turn_keeps : (place : Place) (state : State) (tour after : Tour) → HasRoom scope.style 129 tour.course.count state → GivesNone tour
      → turn_from scope place one state tour ≡ Ok after → KeepsEnds scope.style tour after
  turn_keeps place state tour after room none e =
      let entered = then_ok (target_entered scope place one.test state tour.course) _ after e in
      let mid : Course = entered.0 in
      let inner : Tour = record tour { course = record mid { given = [] } } in
      let rises = (target_room scope place one.test state tour.course mid sound cert makes
      (room_on scope.style 129 64 tour.course.count tour.course.count state (omega arith) (omega arith) room) entered.1).count in
      let kept = tests_keep place mid.given inner after
      (target_leaves scope place one.test 65 state tour.course mid sound cert makes room none entered.1) refl entered.2 in
      let high = kept.count in
      record { none = kept.none; count = omega (arith, rises, high); ends = kept.ends }

  -- turns from cases, one after the other
  pub turns_keep : (cases : List Piece) (tour after : Tour) → All (IsPieceOf scope.style one.entry) cases → GivesNone tour
      → turns_of scope one cases tour ≡ Ok after → KeepsEnds scope.style tour after
  turns_keep [] tour after are none e = subst (KeepsEnds scope.style tour) (sym (ok_is tour after e)) (self_keeps scope.style tour none)
  turns_keep (case ∷ cases) tour after are none e =
      let first = then_ok (turn_of scope one case tour) (turns_of scope one cases) after e in
      let kept = turn_keeps (place_of scope.style (body_of scope.style one.body)) (started scope.style scope.cert.cond (case ∷ []) one.whole one.entry)
      tour first.0
      (turn_room scope case one.whole one.entry tour.course.count sound cert.fields (All-head (IsPieceOf scope.style one.entry) case cases are))
      none first.1 in
      kept_on scope.style tour first.0 after kept
      (turns_keep cases first.0 after (All-tail (IsPieceOf scope.style one.entry) case cases are) kept.none first.2)
