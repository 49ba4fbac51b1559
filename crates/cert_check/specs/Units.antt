-- The units that are checked (docs/CHECKER.md, "Units"): the body of a summary from its pre to its posts, and the call of a name.
use Rattle.std.specs.Prelude.{ℕ, Bool, true, false, nat_eq, if◌then◌else◌, List, [], ◌∷◌, length, Option, None, Some, Result, Ok, Err, slice_get}
use Rattle.std.specs.Option.{option_map_or}
use Rattle.bv_base.specs.Answers.{then_do}
use Rattle.bv_base.specs.declared.place.Place.{Place}
use Rattle.name_table.specs.declared.names.Kind.{Kind}
use Rattle.name_table.specs.declared.names.Kind.TheVariants.{Wizard}
use Rattle.name_table.specs.declared.style.BodyId.{BodyId}
use Rattle.name_table.specs.declared.style.Style.{Style}
use Rattle.bst_meaning.specs.StyleParts.{kind_of}
use Rattle.bst_meaning.specs.declared.condition.Cond.{Cond}
use Rattle.bst_meaning.specs.declared.value.Target.{Target}
use Rattle.bst_meaning.specs.declared.value.Target.TheVariants.{Named, Block}
use Rattle.cert_format.specs.declared.cert.Cert.{Cert}
use Rattle.cert_format.specs.declared.cert.Loop.{Loop}
use Rattle.cert_format.specs.declared.cert.Summary.{Summary}
use Rattle.sym_state.specs.State.{State}
use Rattle.sym_state.specs.Cases.{above_of}
use Rattle.sym_state.specs.Demands.{one_of}
use Rattle.sym_state.specs.Starting.{started, symbols_of}
use Rattle.sym_state.specs.declared.demand.EffectFault.TheVariants.{NotEntailed, HintsShort, WrongHint}
use Rattle.sym_state.specs.declared.hint.Hint.{Hint}
use Rattle.sym_state.specs.declared.hint.Hint.TheVariants.{Case}
use Rattle.sym_state.specs.declared.piece.Piece.{Piece}
use Rattle.sym_state.specs.declared.symbol.Kinds.TheVariants.{Int}
use Rattle.straight_hints.specs.declared.finding.Finding.{Finding}
use Rattle.straight_hints.specs.declared.finding.Finding.TheVariants.{Straight}
use Rattle.cert_check.specs.declared.limits.TheConstants.{MOST_DEPTH}
use Rattle.cert_check.specs.declared.checker.Called.{Called}
use Rattle.cert_check.specs.declared.refusal.Reason.TheVariants.{HintsLeft}
use Rattle.cert_check.specs.declared.refusal.Refusal.{Refusal}
use Rattle.cert_check.specs.Courses.{Course, Walk, placed, refuses}
use Rattle.sym_state.specs.Showing.{Shown, piece_by}
use Rattle.cert_check.specs.Walks.{Make, Onward, Scope, body_walked, chosen_in, entered, name_entered, named}

-- a style and a certificate
pub record Checked : Type 0 where
  pub style : Style
  pub cert : Cert

-- the body of a target, which a built-in function, a variable and a field don't have
abbrev pub body_of_kind : Option Kind → Option BodyId
body_of_kind (Some (Wizard body)) = Some body
body_of_kind _ = None

-- the body of what is entered
abbrev pub body_of : Style → Target → Option BodyId
body_of style (Named name) = body_of_kind (kind_of style name)
body_of style (Block body) = Some body

-- the place of a body, which is that of its opening brace
abbrev pub place_of_body : Style → BodyId → Place
place_of_body style body = option_map_or (λ found. found.place) (slice_get style.bodies body.0) (record { line = 1; column = 1 })

-- a unit's place: its body's
abbrev pub place_of : Style → Option BodyId → Place
place_of style body = option_map_or (place_of_body style) body (record { line = 1; column = 1 })

-- at a unit's end a state entails a piece with the same length of the stack
abbrev pub ends_by : Cond → ℕ → Option Piece → State → List Hint → Shown
ends_by cond kept None state hints = Err (NotEntailed 0)
ends_by cond kept (Some piece) state hints =
    if nat_eq (length state.stack) (length piece.stack) then piece_by cond state piece kept hints else Err (NotEntailed 0)

-- the next hint is the number of that piece among those of the unit
abbrev pub ends : Cond → ℕ → List Piece → State → List Hint → Shown
ends cond kept pieces state [] = Err HintsShort
ends cond kept pieces state (Case k ∷ hints) = ends_by cond kept (slice_get pieces k) state hints
ends cond kept pieces state (hint ∷ hints) = Err WrongHint

-- each state at a unit's end, in order
abbrev pub all_end : Cond → ℕ → List Piece → List State → List Hint → Shown
all_end cond kept pieces [] hints = Ok hints
all_end cond kept pieces (state ∷ states) hints = then_do (ends cond kept pieces state hints) (all_end cond kept pieces states)

-- no hint is left at a unit's end
abbrev pub none_left : Place → List Hint → Result (List Hint) Refusal
none_left place [] = Ok []
none_left place (hint ∷ hints) = refuses place HintsLeft

-- a walk that begins with these hints
abbrev pub beginning : List Hint → Course
beginning hints = record { given = []; hints = hints; count = 0; finding = None; found = []; stay = 0; loops = [] }

-- a walk that finds its hints
abbrev pub searching : Finding → Course
searching finding = record { given = []; hints = []; count = 0; finding = Some finding; found = []; stay = 0; loops = [] }

-- a unit's own body is walked from a state, of a name that isn't a function of the style its call
abbrev pub own_walked : Scope → Place → Target → Option BodyId → Onward
own_walked scope place target (Some body) state course = body_walked scope MOST_DEPTH place body state course
own_walked scope place (Named name) None state course =
    let enter = body_walked scope MOST_DEPTH in
    named scope enter (chosen_in scope enter place) (kind_of scope.style name) name place state course
own_walked scope place (Block body) None state course = Ok course

-- the body of a summary is walked from its pre: each state at its end entails one of its posts, and no hint is left
abbrev pub summary_checked : Style → Cert → Summary → Result (List Hint) Refusal
summary_checked style cert summary =
    let scope : Scope = record { style = style; cert = cert; writes = Some summary.writes; make = None } in
    let body = body_of style summary.body in
    let place = place_of style body in
    let state = started style cert.cond (summary.pre ∷ []) summary.whole summary.entry in
    then_do (own_walked scope place summary.body body state (beginning summary.hints)) (λ course.
    then_do (placed place (all_end cert.cond (symbols_of summary.pre) summary.posts course.given course.hints)) (none_left place))

-- the summary of a number is checked
abbrev pub checked_at : Style → Cert → ℕ → Result (List Hint) Refusal
checked_at style cert k = option_map_or (summary_checked style cert) (slice_get cert.summaries k) (Ok [])

-- a walk that may write every variable
abbrev pub everywhere : Style → Cert → Scope
everywhere style cert = record { style = style; cert = cert; writes = None; make = None }

-- a target is entered from a state: a name counts
abbrev pub target_entered : Scope → Place → Target → Onward
target_entered scope place (Named name) state course =
    let enter = body_walked scope MOST_DEPTH in name_entered scope enter (chosen_in scope enter place) place name state course
target_entered scope place (Block body) state course =
    entered scope place (Block body) (body_walked scope MOST_DEPTH place body) state course

-- each of these states entails one of the pieces
abbrev pub all_entail : Place → Cond → List Piece → List State → Course → Walk
all_entail place cond pieces states course =
    then_do (placed place (all_end cond 0 pieces states course.hints)) (λ hints. Ok (record course { hints = hints }))

-- above 0 the body of a loop is entered, and each state at its end entails a case; else the loop ends, and the state entails an exit
abbrev pub turned : Scope → Place → Loop → Bool → State → Course → Walk
turned scope place one true state course =
    then_do (target_entered scope place one.body state course) (λ after.
    all_entail place scope.cert.cond one.cases after.given (record after { given = [] }))
turned scope place one false state course = all_entail place scope.cert.cond one.exits (state ∷ []) course

-- the cases of the test's integer, in order
abbrev pub all_turned : Scope → Place → Loop → List (Bool × State) → Course → Walk
all_turned scope place one [] course = Ok course
all_turned scope place one (case ∷ cases) course = then_do (turned scope place one case.0 case.1 course) (all_turned scope place one cases)

-- at the test's end a state gives up an integer, and is split on it
abbrev pub tested : Scope → Place → Loop → Onward
tested scope place one state course =
    then_do (placed place (one_of Int state)) (λ taken.
    then_do (placed place (above_of scope.cert.cond taken.rest taken.operand course.hints)) (λ labelled.
    all_turned scope place one labelled.cases (record course { hints = labelled.hints })))

-- each state at the test's end, in order
abbrev pub all_tested : Scope → Place → Loop → List State → Course → Walk
all_tested scope place one [] course = Ok course
all_tested scope place one (state ∷ states) course = then_do (tested scope place one state course) (all_tested scope place one states)

-- the state with which a turn starts from a case
abbrev pub turn_state : Scope → Loop → Piece → State
turn_state scope one case = started scope.style scope.cert.cond (case ∷ []) one.whole one.entry

-- a turn from a state: the test is entered first
abbrev pub turn : Scope → Place → Loop → Onward
turn scope place one state course =
    then_do (target_entered scope place one.test state course) (λ after. all_tested scope place one after.given (record after { given = [] }))

-- a turn from each case
abbrev pub turned_from : Scope → Place → Loop → List Piece → Course → Walk
turned_from scope place one [] course = Ok course
turned_from scope place one (case ∷ cases) course =
    then_do (turn scope place one (turn_state scope one case) course) (turned_from scope place one cases)

-- a loop is checked from each of its cases, and no hint is left; its place is that of its body
abbrev pub loop_checked : Style → Cert → Loop → Result (List Hint) Refusal
loop_checked style cert one =
    let scope : Scope = record { style = style; cert = cert; writes = Some one.writes; make = None } in
    let place = place_of style (body_of style one.body) in
    then_do (turned_from scope place one one.cases (beginning one.hints)) (λ course. none_left place course.hints)

-- the loop of a number is checked
abbrev pub loop_checked_at : Style → Cert → ℕ → Result (List Hint) Refusal
loop_checked_at style cert k = option_map_or (loop_checked style cert) (slice_get cert.loops k) (Ok [])

-- it is entered from states, one after the other
abbrev pub target_from : Scope → Place → Target → List State → Course → Walk
target_from scope place target [] course = Ok course
target_from scope place target (state ∷ states) course =
    then_do (target_entered scope place target state course) (target_from scope place target states)

-- the call of a command: its states and the hints that are left
abbrev pub call_walked : Style → Cert → List State → Target → Place → List Hint → Walk
call_walked style cert states target place hints = target_from (everywhere style cert) place target states (beginning hints)

-- the call of a command whose hints are found: its states and those hints, or the first rule that fails. None is found for a `while$`
-- and for what has a summary: hints are short there.
abbrev pub call_found : Finding → Style → Cert → List State → Target → Place → Walk
call_found finding style cert states target place = target_from (everywhere style cert) place target states (searching finding)

-- what a course came to
abbrev pub came_to : Course → Called
came_to course = record { given = course.given; found = course.found; loops = course.loops }

-- the call of a command whose hints are found and whose loops are made, behind so many that stay: its states, those hints and those loops,
-- or the first rule that fails
abbrev pub call_made : Option Make → Style → Cert → ℕ → List State → Target → Place → Result Called Refusal
call_made make style cert stay states target place =
    let scope : Scope = record { style = style; cert = cert; writes = None; make = make } in
    then_do (target_from scope place target states (record (searching Straight) { stay = stay })) (λ course. Ok (came_to course))
