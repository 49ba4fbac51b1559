-- Turns of a loop of which the cases alone are known (docs/ANALYSER.md, "Loops"): they are walked as the loop's own check walks them, with
-- hints that are found, and the states are kept that come to their ends.
use Rattle.std.specs.Prelude.{◌≡◌, ◌≤◌, Bool, true, false, List, [], ◌∷◌, ◌++◌, Result, Ok}
use Rattle.std.specs.List.{All}
use Rattle.bv_base.specs.Answers.{then_do}
use Rattle.bv_base.specs.declared.place.Place.{Place}
use Rattle.name_table.specs.Sound.{Each}
use Rattle.name_table.specs.declared.style.Style.{Style}
use Rattle.cert_format.specs.CertText.{IsHint}
use Rattle.sym_state.specs.Cases.{above_of}
use Rattle.sym_state.specs.Demands.{one_of}
use Rattle.sym_state.specs.Starting.{started}
use Rattle.sym_state.specs.State.{State}
use Rattle.sym_state.specs.declared.hint.Hint.{Hint}
use Rattle.sym_state.specs.declared.piece.Piece.{Piece}
use Rattle.sym_state.specs.declared.symbol.Kinds.TheVariants.{Int}
use Rattle.sym_state.specs.declared.symbol.Sym.{Sym}
use Rattle.straight_hints.specs.Found.{above_hints}
use Rattle.straight_hints.specs.declared.finding.Finding.{Finding}
use Rattle.cert_check.specs.declared.refusal.Refusal.{Refusal}
use Rattle.cert_check.specs.declared.tours.Ended.{Ended}
use Rattle.cert_check.specs.declared.tours.Tour.{Tour}
use Rattle.cert_check.specs.declared.tours.Turning.{Turning}
use Rattle.cert_check.specs.Courses.{Course, behind, handed, placed}
use Rattle.cert_check.specs.Room.{IsEnd}
use Rattle.cert_check.specs.Units.{body_of, place_of, searching, target_entered}
use Rattle.cert_check.specs.Walks.{Scope}

-- the cases of whether an integer is above 0, and the course behind them
pub record Signed : Type 0 where
  pub cases : List (Bool × State)
  pub course : Course

-- those of an integer in a state, by hints that are read or found
abbrev pub signed : Scope → Place → State → Sym → Course → Result Signed Refusal
signed scope place rest s course =
    let hints = handed course.finding course.hints (λ finding. above_hints finding scope.cert.cond rest s) in
    then_do (placed place (above_of scope.cert.cond rest s hints)) (λ labelled.
    Ok (record { cases = labelled.cases; course = behind hints labelled.hints course }))

-- a tour after a rule, or the first rule that fails
abbrev pub Toured : Type 0
Toured = Result Tour Refusal

-- a tour that begins
abbrev pub setting_out : Finding → Tour
setting_out finding = record { course = searching finding; ends = [] }

-- the hints that were found since the last end
abbrev pub found_since : Tour → List Hint
found_since tour = tour.course.found

-- a state comes to an end
abbrev pub ended : Bool → State → Tour → Tour
ended turned state tour = record {
  course = record tour.course { found = [] };
  ends = tour.ends ++ record { hints = tour.course.found; turned = turned; state = state } ∷ [];
}

-- states come to it, one after the other
abbrev pub all_ended : Bool → List State → Tour → Tour
all_ended turned [] tour = tour
all_ended turned (state ∷ states) tour = all_ended turned states (ended turned state tour)

-- the states that a walk gave come to the end of a turn
abbrev pub turn_ended : List Ended → Course → Tour
turn_ended ends after = all_ended true after.given (record { course = record after { given = [] }; ends = ends })

-- above 0 the body is entered, and each state at its end has turned; else the state leaves
abbrev pub turned_or_left : Scope → Place → Turning → Bool → State → Tour → Toured
turned_or_left scope place one true state tour =
    then_do (target_entered scope place one.body state tour.course) (λ after. Ok (turn_ended tour.ends after))
turned_or_left scope place one false state tour = Ok (ended false state tour)

-- the cases of the test's integer, in order
abbrev pub all_turned_or_left : Scope → Place → Turning → List (Bool × State) → Tour → Toured
all_turned_or_left scope place one [] tour = Ok tour
all_turned_or_left scope place one (case ∷ cases) tour =
    then_do (turned_or_left scope place one case.0 case.1 tour) (all_turned_or_left scope place one cases)

-- at the test's end a state gives up an integer, and is split on it
abbrev pub test_ended : Scope → Place → Turning → State → Tour → Toured
test_ended scope place one state tour =
    then_do (placed place (one_of Int state)) (λ taken.
    then_do (signed scope place taken.rest taken.operand tour.course) (λ by_sign.
    all_turned_or_left scope place one by_sign.cases (record tour { course = by_sign.course })))

-- each state at the test's end, in order
abbrev pub all_tests_ended : Scope → Place → Turning → List State → Tour → Toured
all_tests_ended scope place one [] tour = Ok tour
all_tests_ended scope place one (state ∷ states) tour =
    then_do (test_ended scope place one state tour) (all_tests_ended scope place one states)

-- a turn from a state: the test is entered first
abbrev pub turn_from : Scope → Place → Turning → State → Tour → Toured
turn_from scope place one state tour =
    then_do (target_entered scope place one.test state tour.course) (λ after.
    all_tests_ended scope place one after.given (record tour { course = record after { given = [] } }))

-- a turn from a case of the loop, at the place of its body
abbrev pub turn_of : Scope → Turning → Piece → Tour → Toured
turn_of scope one case tour =
    turn_from scope (place_of scope.style (body_of scope.style one.body)) one
    (started scope.style scope.cert.cond (case ∷ []) one.whole one.entry) tour

-- a turn from each case
abbrev pub turns_of : Scope → Turning → List Piece → Tour → Toured
turns_of scope one [] tour = Ok tour
turns_of scope one (case ∷ cases) tour = then_do (turn_of scope one case tour) (turns_of scope one cases)

-- no state is given where a turn begins
abbrev pub GivesNone : Tour → Type 0
GivesNone tour = tour.course.given ≡ []

-- a state at an end is well made, and there is room for a symbol more; the hints that were found before it may be written
pub record IsEnded (style : Style) (end : Ended) : Type 0 where
  pub state : IsEnd style end.state
  pub hints : Each IsHint end.hints

-- so is each on a tour
abbrev pub HasEnds : Style → Tour → Type 0
HasEnds style tour = All (IsEnded style) tour.ends

-- what a turn keeps of a tour: no state is given, the count doesn't fall, and the ends are such
pub record KeepsTour (style : Style) (before after : Tour) : Type 0 where
  pub none : GivesNone after
  pub count : before.course.count ≤ after.course.count
  pub ends : HasEnds style before → HasEnds style after
