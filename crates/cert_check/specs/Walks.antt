-- The walk over tokens (docs/CHECKER.md, "The walk"): each token is taken from each state in order, and what it gives takes the
-- state's place. How a body is walked that a token enters is told to each rule.
use Rattle.std.specs.Prelude.{ℕ, zero, suc, Bool, true, false, ◌&&◌, ◌||◌, nat_eq, nat_lt, ◌+◌, if◌then◌else◌, List, [], ◌∷◌, ◌++◌, length, reverse, map, codes, Option, None, Some, is_none, Result, Ok, Err, slice_get}
use Rattle.std.specs.List.{filter_map, list_all, list_any}
use Rattle.std.specs.Option.{option_and_then, option_map, option_map_or}
use Rattle.std.specs.Result.{result_ok}
use Rattle.bv_base.specs.Answers.{then_do}
use Rattle.bv_base.specs.declared.place.Place.{Place}
use Rattle.name_table.specs.Sound.{block_of}
use Rattle.name_table.specs.Opening.{skip}
use Rattle.name_table.specs.TypeTarget.{type_function}
use Rattle.name_table.specs.declared.builtin.Builtin.{Builtin}
use Rattle.name_table.specs.declared.builtin.Builtin.TheVariants as op
use Rattle.name_table.specs.declared.names.Kind.{Kind}
use Rattle.name_table.specs.declared.names.Kind.TheVariants as kind
use Rattle.name_table.specs.declared.names.NameId.{NameId}
use Rattle.name_table.specs.declared.style.Body.{Body}
use Rattle.name_table.specs.declared.style.BodyId.{BodyId}
use Rattle.name_table.specs.declared.style.Style.{Style}
use Rattle.name_table.specs.declared.style.Token.{Token}
use Rattle.name_table.specs.declared.style.Token.TheVariants as token
use Rattle.name_table.specs.declared.style.TokenAt.{TokenAt}
use Rattle.bst_meaning.specs.StyleParts.{kind_of, text_of, tokens_of}
use Rattle.bst_meaning.specs.declared.condition.Cond.{Cond}
use Rattle.bst_meaning.specs.declared.value.Target.{Target}
use Rattle.bst_meaning.specs.declared.value.Target.TheVariants.{Named, Block}
use Rattle.cert_format.specs.declared.cert.Cert.{Cert}
use Rattle.cert_format.specs.declared.cert.Loop.{Loop}
use Rattle.cert_format.specs.declared.cert.Summary.{Summary}
use Rattle.sym_state.specs.State.{State}
use Rattle.sym_state.specs.Cases.{above_of, split_of}
use Rattle.sym_state.specs.Changes.{bound}
use Rattle.sym_state.specs.Decided.{Function, ByName, ByNumber, exact_function, name_of}
use Rattle.sym_state.specs.Demands.{Outcome, Three, Two, three_by, two_of}
use Rattle.sym_state.specs.Effects.{effect_of}
use Rattle.sym_state.specs.Results.{next_of, with_result, with_top}
use Rattle.sym_state.specs.Starting.{symbols_of}
use Rattle.sym_state.specs.declared.demand.DemandKind.TheVariants.{NoEntry}
use Rattle.sym_state.specs.declared.demand.EffectFault.{EffectFault}
use Rattle.sym_state.specs.declared.demand.EffectFault.TheVariants as fault
use Rattle.sym_state.specs.declared.hint.Hint.{Hint}
use Rattle.sym_state.specs.declared.hint.Hint.TheVariants as hint
use Rattle.sym_state.specs.declared.piece.Piece.{Piece}
use Rattle.sym_state.specs.declared.symbol.Fact.{Fact}
use Rattle.sym_state.specs.declared.symbol.Fact.TheVariants as fact
use Rattle.sym_state.specs.declared.symbol.Kinds.{Kinds}
use Rattle.sym_state.specs.declared.symbol.Kinds.TheVariants.{Int, Str, Func}
use Rattle.sym_state.specs.declared.symbol.Sym.{Sym}
use Rattle.sym_state.specs.declared.test.Test.{Test}
use Rattle.sym_state.specs.declared.test.Test.TheVariants as test
use Rattle.cert_check.specs.declared.refusal.Reason.TheVariants as reason
use Rattle.straight_hints.specs.Found.{above_hints, piece_hints, plain_hints, test_hints}
use Rattle.straight_hints.specs.declared.finding.Finding.TheVariants.{Straight}
use Rattle.cert_check.specs.Courses.{Course, Walk, behind, counts, first_number, gives, gives_all, handed, placed, refuses}
use Rattle.cert_check.specs.Uses.{Passage, around, comes_by, is_among, left_state, passage}
use Rattle.cert_check.specs.declared.refusal.Refusal.{Refusal}
use Rattle.cert_check.specs.declared.limits.TheConstants.{MOST_LOOPS}

-- how the loop of two functions is made that these states enter: there may be none
abbrev pub Make : Type 0
Make = Target → Target → List State → Option Loop

-- how they are made, where they are: else there is none
abbrev pub made_by : Option Make → Make
made_by None = λ test body states. None
made_by (Some make) = make

-- what a walk is over: the style and the certificate, and the variables that the unit which is checked may write: all where none is
-- listed
pub record Over : Type 0 where
  pub style : Style
  pub cert : Cert
  pub writes : Option (List NameId)

-- where a walk is: what it is over, and where loops are made and not read, how that is done
pub record Scope : Type 0 where
  pub style : Style
  pub cert : Cert
  pub writes : Option (List NameId)
  pub make : Option Make

-- a walk over these that makes loops so
abbrev pub scope_of : Over → Option Make → Scope
scope_of over make = record { style = over.style; cert = over.cert; writes = over.writes; make = make }

-- how a body is walked that a token at a place enters
abbrev pub Enter : Type 0
Enter = Place → BodyId → State → Course → Walk

-- a literal is a new symbol on top, with the fact that says its value
abbrev pub literal : Kinds → Fact → State → State
literal kind said state = with_result kind (said ∷ []) [] state

-- a unit that writes these, or all, may write a variable
abbrev pub may_write : Option (List NameId) → NameId → Bool
may_write writes name = option_map_or (λ names. is_among names name) writes true

-- the variable that `:=` writes, which the exact function on top names
abbrev pub written_by : Builtin → State → Option NameId
written_by op.Assign state = option_and_then (λ s. option_and_then name_of (exact_function state.facts s.0)) (slice_get (reverse state.stack) 0)
written_by _ state = None

-- the unit may write what a built-in function writes
abbrev pub is_within : Option (List NameId) → Option NameId → Bool
is_within writes written = option_map_or (may_write writes) written true

-- a variable that the unit may not write isn't written: that comes behind the demands and before the hints
abbrev pub confined : Bool → Outcome → Outcome
confined true outcome = outcome
confined false (Err (fault.Demand demand)) = Err (fault.Demand demand)
confined false _ = Err (fault.NotEntailed 0)

-- the hints for a built-in function that is neither a test nor enters a function
abbrev pub hints_at : Scope → Builtin → State → Course → List Hint
hints_at scope op state course = handed course.finding course.hints (λ finding. plain_hints finding scope.style scope.cert.cond state op)

-- it gives one state
abbrev pub plain : Scope → Builtin → Place → State → Course → Walk
plain scope op place state course =
    let hints = hints_at scope op state course in
    then_do (placed place (confined (is_within scope.writes (written_by op state)) (effect_of scope.style scope.cert.cond state op hints)))
    (λ after. gives place after.state (behind hints after.hints course))

-- the hints for a test
abbrev pub hints_of_test : Scope → Test → State → Course → List Hint
hints_of_test scope asked state course = handed course.finding course.hints (λ finding. test_hints finding scope.cert.cond state asked)

-- a test gives the states of its cases
abbrev pub split : Scope → Test → Place → State → Course → Walk
split scope asked place state course =
    let hints = hints_of_test scope asked state course in
    then_do (placed place (split_of scope.cert.cond state asked hints)) (λ cases.
    gives_all place cases.states (behind hints cases.hints course))

-- a variable or a field puts its symbol on top
abbrev pub variable : NameId → Place → State → Course → Walk
variable name place state course =
    option_map_or (λ s. gives place (with_top s state) course) (bound name state) (refuses place (reason.Demand (record { kind = NoEntry; operand = 0 })))

-- two targets are the same
abbrev pub is_target : Target → Target → Bool
is_target (Named a) (Named b) = nat_eq a.0 b.0
is_target (Block a) (Block b) = nat_eq a.0 b.0
is_target _ b = false

-- the certificate has a summary of a target
abbrev pub has_summary : Cert → Target → Bool
has_summary cert target = list_any (λ summary. is_target summary.body target) cert.summaries

-- a unit is used that a state came to: the unit which is checked may write what this one writes, each of these variables counts,
-- and each of its posts gives one state
abbrev pub leaves : Scope → Place → Passage → Piece → List Piece → ℕ → State → Course → Walk
leaves scope place unit pre posts kept state course =
    if list_all (may_write scope.writes) unit.writes
    then then_do (counts (length unit.writes) place course)
    (gives_all place (map (left_state scope.style scope.cert.cond unit pre kept state) posts))
    else refuses place (reason.NotEntailed 0)

-- a summary is used: its pre is entailed first
abbrev pub summary_used : Scope → Place → Summary → State → Course → Walk
summary_used scope place summary state course =
    then_do (placed place (comes_by (passage summary) scope.cert.cond summary.pre state course.hints)) (λ hints.
    leaves scope place (passage summary) summary.pre summary.posts (symbols_of summary.pre) state (record course { hints = hints }))

-- the summary that a hint names is used, where it is one of the target
abbrev pub use_of : Scope → Place → Target → Option Summary → State → Course → Walk
use_of scope place target None state course = refuses place reason.NoSummary
use_of scope place target (Some summary) state course =
    if is_target summary.body target then summary_used scope place summary state course else refuses place reason.NoSummary

-- how a state is walked on
abbrev pub Onward : Type 0
Onward = State → Course → Walk

-- where what is entered has a summary the next hint uses one or walks
abbrev pub entered_by : Scope → Place → Target → Onward → State → Course → List Hint → Walk
entered_by scope place target walk state course [] = refuses place reason.HintsShort
entered_by scope place target walk state course (hint.Apply k ∷ hints) =
    use_of scope place target (slice_get scope.cert.summaries k) state (record course { hints = hints })
entered_by scope place target walk state course (hint.Walk ∷ hints) = walk state (record course { hints = hints })
entered_by scope place target walk state course (hint ∷ hints) = refuses place reason.WrongHint

-- a target is entered: one without a summary is walked
abbrev pub entered : Scope → Place → Target → Onward → Onward
entered scope place target walk state course =
    if has_summary scope.cert target then entered_by scope place target walk state course course.hints else walk state course

-- the body of the block with a number, among bodies that are numbered from here
abbrev pub block_body : ℕ → ℕ → List Body → Option BodyId
block_body number id [] = None
block_body number id (body ∷ bodies) =
    if option_map_or (nat_eq number) body.block false then Some (record { 0 = id }) else block_body number (suc id) bodies

-- what an exact function is: a name, or the block with its number
abbrev pub target_of : Style → Function → Option Target
target_of style (ByName name) = Some (Named name)
target_of style (ByNumber number) = option_map Block (block_body number 0 style.bodies)

-- what a symbol exactly is
abbrev pub exact_target : Style → State → Sym → Option Target
exact_target style state s = option_and_then (target_of style) (exact_function state.facts s.0)

-- the test that a built-in function makes
abbrev pub test_of : Builtin → Option Test
test_of op.Empty = Some test.Empty
test_of op.Missing = Some test.Missing
test_of op.Equal = Some test.Equal
test_of op.Less = Some test.Less
test_of op.Greater = Some test.Greater
test_of _ = None

-- a built-in function that enters nothing
abbrev pub entering_nothing : Scope → Builtin → Option Test → Place → State → Course → Walk
entering_nothing scope op (Some asked) place state course = split scope asked place state course
entering_nothing scope op None place state course = plain scope op place state course

-- how a name is entered from a state
abbrev pub Call : Type 0
Call = NameId → Onward

-- what `if$` enters in a case: the exact function, of which a name counts
abbrev pub function_entered : Scope → Enter → Call → Place → Option Target → Onward
function_entered scope enter call place None state course = refuses place reason.UnknownFunction
function_entered scope enter call place (Some (Named name)) state course = call name state course
function_entered scope enter call place (Some (Block body)) state course = entered scope place (Block body) (enter place body) state course

-- the function of each case is entered, in order: the first function where the integer is above 0, else the second
abbrev pub cases_entered : Scope → Enter → Call → Place → Three → List (Bool × State) → Course → Walk
cases_entered scope enter call place three [] course = Ok course
cases_entered scope enter call place three (case ∷ cases) course =
    then_do (function_entered scope enter call place (exact_target scope.style case.1 (if case.0 then three.middle else three.top)) case.1 course)
    (cases_entered scope enter call place three cases)

-- the hints for the cases of `if$`
abbrev pub hints_of_choice : Scope → Three → Course → List Hint
hints_of_choice scope three course =
    handed course.finding course.hints (λ finding. above_hints finding scope.cert.cond three.rest three.lowest)

-- `if$`: an integer and two functions, of which those are entered whose cases are kept
abbrev pub choice : Scope → Enter → Call → Place → Three → Course → Walk
choice scope enter call place three course =
    let hints = hints_of_choice scope three course in
    then_do (placed place (above_of scope.cert.cond three.rest three.lowest hints)) (λ labelled.
    cases_entered scope enter call place three labelled.cases (behind hints labelled.hints course))

-- `if$` on the stack of a state, its top first
abbrev pub chosen : Scope → Enter → Call → Place → List Sym → State → Course → Walk
chosen scope enter call place stack state course =
    then_do (placed place (three_by Int Func Func stack state)) (λ three. choice scope enter call place three course)

-- the case of a loop that a state came to, and the hints that are left
pub record Come : Type 0 where
  pub case : Piece
  pub hints : List Hint

-- a state comes to a loop by a case
abbrev pub comes_by_case : Passage → Cond → Option Piece → State → List Hint → Result Come EffectFault
comes_by_case unit cond None state hints = Err (fault.NotEntailed 0)
comes_by_case unit cond (Some case) state hints =
    then_do (comes_by unit cond case state hints) (λ left. Ok (record { case = case; hints = left }))

-- the next hint is the number of that case among those of the loop
abbrev pub comes_to : Passage → Cond → List Piece → State → List Hint → Result Come EffectFault
comes_to unit cond cases state [] = Err fault.HintsShort
comes_to unit cond cases state (hint.Case k ∷ hints) = comes_by_case unit cond (slice_get cases k) state hints
comes_to unit cond cases state (hint ∷ hints) = Err fault.WrongHint

-- a loop is used in a state without its two functions: a case is entailed, and the exits act as posts that share no symbol with it
abbrev pub loop_used : Scope → Place → Loop → Onward
loop_used scope place one state course =
    then_do (placed place (comes_to (around one) scope.cert.cond one.cases state course.hints)) (λ come.
    leaves scope place (around one) come.case one.exits 0 state (record course { hints = come.hints }))

-- the loop that a hint names is used, where it is one of the two functions
abbrev pub loop_of : Scope → Place → Target → Target → Option Loop → Onward
loop_of scope place test body None state course = refuses place reason.NoInvariant
loop_of scope place test body (Some one) state course =
    if is_target one.test test && is_target one.body body then loop_used scope place one state course else refuses place reason.NoInvariant

-- the next hint names a loop
abbrev pub loop_by : Scope → Place → Target → Target → State → Course → List Hint → Walk
loop_by scope place test body state course [] = refuses place reason.HintsShort
loop_by scope place test body state course (hint.Loop k ∷ hints) =
    loop_of scope place test body (slice_get scope.cert.loops k) state (record course { hints = hints })
loop_by scope place test body state course (hint ∷ hints) = refuses place reason.WrongHint

-- both functions have to be known exactly, before the hint is looked at
abbrev pub loop_around : Scope → Place → Option Target → Option Target → Onward
loop_around scope place (Some test) (Some body) state course = loop_by scope place test body state course course.hints
loop_around scope place test body state course = refuses place reason.UnknownFunction

-- `while$` by hints that are read: the test and, on top of it, the body
abbrev pub repeated : Scope → Place → Onward
repeated scope place state course =
    then_do (placed place (two_of Func Func state)) (λ two.
    loop_around scope place (exact_target scope.style state two.lower) (exact_target scope.style state two.upper) two.rest course)

-- the two functions of a `while$`, and the state without them
pub record While : Type 0 where
  pub test : Target
  pub body : Target
  pub rest : State

-- both functions are known exactly
abbrev pub while_by : Option Target → Option Target → State → Option While
while_by (Some test) (Some body) rest = Some (record { test = test; body = body; rest = rest })
while_by test body rest = None

-- those of a state with these operands
abbrev pub while_of : Scope → State → Two → Option While
while_of scope state two = while_by (exact_target scope.style state two.lower) (exact_target scope.style state two.upper) two.rest

-- those of a state
abbrev pub while_in : Scope → State → Option While
while_in scope state = option_and_then (while_of scope state) (result_ok (two_of Func Func state))

-- what is left of a state with these functions
abbrev pub rest_of : While → While → Option State
rest_of one other = if is_target one.test other.test && is_target one.body other.body then Some other.rest else None

-- the states of a list that hold the same functions, without them
abbrev pub entering_with : Scope → While → List State → List State
entering_with scope one states = filter_map (λ state. option_and_then (rest_of one) (while_in scope state)) states

-- the loops that were made for the token in hand, and the course
pub record Making : Type 0 where
  pub made : List Loop
  pub course : Course

-- a loop and its number
pub record Numbered : Type 0 where
  pub number : ℕ
  pub one : Loop

-- the loop of two functions among these, which are numbered from here
abbrev pub numbered : While → ℕ → List Loop → Option Numbered
numbered one number [] = None
numbered one number (made ∷ loops) =
    if is_target made.test one.test && is_target made.body one.body
    then Some (record { number = number; one = made })
    else numbered one (suc number) loops

-- the one at a place among them
abbrev pub numbered_at : ℕ → ℕ → List Loop → Option Numbered
numbered_at number k loops = option_map (λ one. record { number = number + k; one = one }) (slice_get loops k)

-- the number of the next loop
abbrev pub next_number : Making → ℕ
next_number making = first_number making.course + length making.made

-- a loop that was made for the token, or else the one that is made now
abbrev pub loop_made : Place → Option Numbered → Option Loop → Making → Result (Numbered × Making) Refusal
loop_made place (Some found) new making = Ok (found, making)
loop_made place None None making = refuses place reason.NoInvariant
loop_made place None (Some one) making =
    if nat_lt (next_number making) MOST_LOOPS
    then Ok (record { number = next_number making; one = one }, record making { made = making.made ++ one ∷ [] })
    else refuses place reason.NoInvariant

-- the hints by which a state comes to a loop by the case of a number
abbrev pub coming_hints : Cond → State → ℕ → Numbered → List Hint
coming_hints admits state k found =
    hint.Case k ∷ option_map_or (piece_hints Straight admits state) (slice_get found.one.cases k) []

-- a loop that was made is used, by the case of a number
abbrev pub made_used : Scope → Place → Numbered → ℕ → Onward
made_used scope place found k state course =
    let hints = coming_hints scope.cert.cond state k found in
    then_do (placed place (comes_to (around found.one) scope.cert.cond found.one.cases state hints)) (λ come.
    leaves scope place (around found.one) come.case found.one.exits 0 state
    (record course { found = course.found ++ hint.Loop found.number ∷ hints }))

-- a `while$` in a state of a list, of which these were taken: the loop's cases are those of the states that enter it, in order
abbrev pub while_made : Make → Scope → Place → List State → List State → Option While → Making → Result Making Refusal
while_made make scope place states earlier None making = refuses place reason.UnknownFunction
while_made make scope place states earlier (Some one) making =
    let found = numbered one (first_number making.course) making.made in
    then_do (loop_made place found (make one.test one.body (entering_with scope one states)) making) (λ known.
    then_do (made_used scope place known.0 (length (entering_with scope one earlier)) one.rest known.1.course) (λ course.
    Ok (record known.1 { course = course })))

-- `while$` in a state of a list, of which these were taken
abbrev pub while_taken : Make → Scope → Place → List State → List State → State → Making → Result Making Refusal
while_taken make scope place states earlier state making =
    then_do (placed place (two_of Func Func state)) (λ two. while_made make scope place states earlier (while_of scope state two) making)

-- a walk in which no loop was made yet for the token in hand
abbrev pub none_made : Course → Making
none_made course = record { made = []; course = course }

-- those that were made for it come behind those that were made before
abbrev pub all_made : Making → Course
all_made making = record making.course { loops = making.course.loops ++ making.made }

-- `while$` in one state whose loop is made
abbrev pub while_alone : Make → Scope → Place → Onward
while_alone make scope place state course =
    then_do (while_taken make scope place (state ∷ []) [] state (none_made course)) (λ making. Ok (all_made making))

-- `while$` in a state
abbrev pub while_by_make : Option Make → Scope → Place → Onward
while_by_make None scope place state course = repeated scope place state course
while_by_make (Some make) scope place state course = while_alone make scope place state course

-- `while$` in the states of a token, one after the other: each counts
abbrev pub whiles_taken : Make → Scope → Place → List State → List State → List State → Making → Result Making Refusal
whiles_taken make scope place states earlier [] making = Ok making
whiles_taken make scope place states earlier (state ∷ later) making =
    then_do (counts 1 place making.course) (λ course.
    then_do (while_taken make scope place states earlier state (record making { course = course }))
    (whiles_taken make scope place states (earlier ++ state ∷ []) later))

-- in all of them
abbrev pub whiles_from : Make → Scope → Place → List State → Course → Walk
whiles_from make scope place states course =
    then_do (whiles_taken make scope place states [] states (none_made course)) (λ making. Ok (all_made making))

-- the functions of these types, of those that the style defines
abbrev pub listed_functions : Style → List (List ℕ) → List NameId
listed_functions style [] = []
listed_functions style (name ∷ names) = option_map_or (λ id. id ∷ listed_functions style names) (type_function name style) (listed_functions style names)

-- an entry may have a type that the style doesn't define
abbrev pub has_other_types : Style → Cond → Bool
has_other_types style cond = cond.other || list_any (λ name. is_none (type_function name style)) cond.types

-- what `call.type$` enters for such a type
abbrev pub default_function : Style → NameId
default_function style = option_map_or (λ id. id) (type_function (codes "default.type") style) skip

-- the functions that `call.type$` may enter: those of the listed types, and the default function where a type may be another
abbrev pub type_functions : Style → Cond → List NameId
type_functions style cond =
    listed_functions style cond.types ++ (if has_other_types style cond then default_function style ∷ [] else [])

-- how a function is walked that `call.type$` enters: one of the style, or `skip$`, which changes nothing
abbrev pub type_walked : Enter → Option Kind → Place → Onward
type_walked enter (Some (kind.Wizard body)) place state course = enter place body state course
type_walked enter found place state course = gives place state course

-- a function that `call.type$` enters counts
abbrev pub type_called : Scope → Enter → Place → NameId → Onward
type_called scope enter place name state course =
    then_do (counts 1 place course) (entered scope place (Named name) (type_walked enter (kind_of scope.style name) place) state)

-- several of them, each from the state
abbrev pub types_called : Scope → Enter → Place → List NameId → Onward
types_called scope enter place [] state course = Ok course
types_called scope enter place (name ∷ names) state course =
    then_do (type_called scope enter place name state course) (types_called scope enter place names state)

-- `call.type$`: the functions of the listed types in order, and then the default function where an entry may have another type
abbrev pub typed : Scope → Enter → Place → Onward
typed scope enter place state course =
    if state.at_entry
    then types_called scope enter place (type_functions scope.style scope.cert.cond) state course
    else refuses place (reason.Demand (record { kind = NoEntry; operand = 0 }))

-- a built-in function that enters functions
abbrev pub enters : Builtin → Bool
enters op.IfElse = true
enters op.WhileDo = true
enters op.CallType = true
enters _ = false

-- a built-in function is called
abbrev pub built_in : Scope → Enter → Onward → Builtin → Place → State → Course → Walk
built_in scope enter if_else op.IfElse place state course = if_else state course
built_in scope enter if_else op.WhileDo place state course = while_by_make scope.make scope place state course
built_in scope enter if_else op.CallType place state course = typed scope enter place state course
built_in scope enter if_else op place state course = entering_nothing scope op (test_of op) place state course

-- a name of a kind is called
abbrev pub named : Scope → Enter → Onward → Option Kind → NameId → Place → State → Course → Walk
named scope enter if_else (Some (kind.Builtin op)) name place state course = built_in scope enter if_else op place state course
named scope enter if_else (Some (kind.Wizard body)) name place state course = entered scope place (Named name) (enter place body) state course
named scope enter if_else _ name place state course = variable name place state course

-- a function that the style defines
abbrev pub is_wizard : Option Kind → Bool
is_wizard (Some (kind.Wizard body)) = true
is_wizard _ = false

-- a name of a kind is entered: what isn't a function of the style takes the hint of a summary here, since its token takes none
abbrev pub entering : Scope → Onward → Option Kind → NameId → Place → Onward
entering scope call found name place state course =
    if is_wizard found then call state course else entered scope place (Named name) call state course

-- a name is entered that counts
abbrev pub name_entered : Scope → Enter → Onward → Place → Call
name_entered scope enter if_else place name state course =
    let found = kind_of scope.style name in
    then_do (counts 1 place course) (entering scope (named scope enter if_else found name place) found name place state)

-- `if$` in a state whose stack this is, its top first: it takes three operands before it enters another
abbrev pub if_else : Scope → Enter → Place → List Sym → Onward
if_else scope enter place [] = chosen scope enter (λ n s c. Ok c) place []
if_else scope enter place (c ∷ []) = chosen scope enter (λ n s c. Ok c) place (c ∷ [])
if_else scope enter place (c ∷ (b ∷ [])) = chosen scope enter (λ n s c. Ok c) place (c ∷ (b ∷ []))
if_else scope enter place (c ∷ (b ∷ (a ∷ rest))) =
    chosen scope enter (name_entered scope enter (if_else scope enter place rest) place) place (c ∷ (b ∷ (a ∷ rest)))

-- `if$` in a state
abbrev pub chosen_in : Scope → Enter → Place → Onward
chosen_in scope enter place state course = if_else scope enter place (reverse state.stack) state course

-- the number of a body that is a block
abbrev pub number_of : Style → BodyId → ℕ
number_of style body = option_map_or (λ found. option_map_or (λ number. number) found 0) (block_of body style.bodies) 0

-- the state after a literal of a token; a name is none
abbrev pub literal_state : Style → Token → State → State
literal_state style (token.Int n) state = literal Int (fact.Int (next_of state) n) state
literal_state style (token.Str text) state = literal Str (fact.Text (next_of state) (text_of style text)) state
literal_state style (token.Quote name) state = literal Func (fact.Call (next_of state) name) state
literal_state style (token.Block body) state = literal Func (fact.Block (next_of state) (number_of style body)) state
literal_state style (token.Call name) state = state

-- what a token gives of a state
abbrev pub token_taken : Scope → Enter → Token → Place → State → Course → Walk
token_taken scope enter (token.Call name) place state course =
    named scope enter (chosen_in scope enter place) (kind_of scope.style name) name place state course
token_taken scope enter other place state course = gives place (literal_state scope.style other state) course

-- a token is taken from a state: it counts
abbrev pub taken : Scope → Enter → TokenAt → State → Course → Walk
taken scope enter t state course = then_do (counts 1 t.place course) (token_taken scope enter t.token t.place state)

-- a token is taken from states, one after the other
abbrev pub each_taken : Scope → Enter → TokenAt → List State → Course → Walk
each_taken scope enter t [] course = Ok course
each_taken scope enter t (state ∷ states) course = then_do (taken scope enter t state course) (each_taken scope enter t states)

-- `while$`
abbrev pub is_while : Option Kind → Bool
is_while (Some (kind.Builtin op.WhileDo)) = true
is_while _ = false

-- a token is `while$`
abbrev pub is_while_token : Style → Token → Bool
is_while_token style (token.Call name) = is_while (kind_of style name)
is_while_token style _ = false

-- how loops are made for a token: it may be `while$`
abbrev pub making_for : Scope → Token → Option Make
making_for scope t = if is_while_token scope.style t then scope.make else None

-- a token is taken from states, of which a loop that is made takes all
abbrev pub taken_by : Option Make → Scope → Enter → TokenAt → List State → Course → Walk
taken_by None scope enter t states course = each_taken scope enter t states course
taken_by (Some make) scope enter t states course = whiles_from make scope t.place states course

-- a token is taken from states
abbrev pub taken_from : Scope → Enter → TokenAt → List State → Course → Walk
taken_from scope enter t states course = taken_by (making_for scope t.token) scope enter t states course

-- the tokens of a body, each from the states that the one before it gave
abbrev pub walked : Scope → Enter → List TokenAt → Course → Walk
walked scope enter [] course = Ok course
walked scope enter (t ∷ tokens) course =
    then_do (taken_from scope enter t course.given (record course { given = [] })) (walked scope enter tokens)

-- a body is walked that a token at a place enters, where so many more may be walked one in the other; the token gives the states
-- at the body's end
abbrev pub body_walked : Scope → ℕ → Enter
body_walked scope zero place body state course = refuses place reason.WalkTooDeep
body_walked scope (suc more) place body state course =
    then_do (walked scope (body_walked scope more) (tokens_of scope.style body) (record course { given = state ∷ [] }))
    (λ inner. gives_all place inner.given (record inner { given = course.given }))
