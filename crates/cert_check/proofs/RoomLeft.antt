-- The states that rules give have room for new symbols where those have that they are taken from.
use Rattle.std.proofs.Common.{◌≡◌, ℕ, ◌+◌, ◌≤◌, ◌<◌, Bool, List, [], ◌∷◌, ◌++◌, is_none, Option, Ok, sym, ap, subst, ◌∙◌, arith, IfSome}
use Rattle.std.specs.List.{All}
use Rattle.std.proofs.lemmas.List.Sums.{count_by-le-length}
use Rattle.std.proofs.lemmas.List.Elements.{All-append, All-cons, All-head, All-nil, All-same, All-tail, All-weaker}
use Rattle.bv_base.specs.declared.place.Place.{Place}
use Rattle.bv_base.proofs.ThenLemmas.{ok_is}
use Rattle.name_table.specs.Sound.{IsSound, IsTokenSound}
use Rattle.name_table.specs.declared.names.Kind.{Kind}
use Rattle.name_table.specs.declared.names.NameId.{NameId}
use Rattle.name_table.specs.declared.style.BodyId.{BodyId}
use Rattle.name_table.specs.declared.style.Style.{Style}
use Rattle.name_table.specs.declared.style.Token.{Token}
use Rattle.name_table.specs.declared.style.TokenAt.{TokenAt}
use Rattle.bst_meaning.specs.declared.condition.Cond.{Cond}
use Rattle.bst_meaning.specs.declared.value.Target.{Target}
use Rattle.cert_format.specs.declared.cert.Loop.{Loop}
use Rattle.sym_state.specs.State.{State}
use Rattle.sym_state.specs.Cases.{Labelled, above_of}
use Rattle.sym_state.specs.Frames.{LeavesVariables}
use Rattle.sym_state.specs.Changes.{symbol_at}
use Rattle.sym_state.specs.Starting.{IsFit, IsNumbered, all_symbols, bound_by, names_in_play, numbered_on, started}
use Rattle.sym_state.specs.WellMade.{HasSmallFields, WellMade, takes_part}
use Rattle.sym_state.specs.declared.hint.Hint.{Hint}
use Rattle.sym_state.specs.declared.piece.Piece.{Piece}
use Rattle.sym_state.specs.declared.symbol.Bind.{Bind}
use Rattle.sym_state.specs.declared.symbol.Sym.{Sym}
use Rattle.sym_state.proofs.Below.{AreBelow}
use Rattle.sym_state.proofs.Keeping.{started_well_made}
use Rattle.sym_state.proofs.Started.{ids_from-length}
use Rattle.refinements.proofs.Framing.{above_left}
use Rattle.refinements.proofs.Kept.{above_made}
use Rattle.cert_check.specs.Certified.{IsCertified, IsLoopOf, MakesLoops}
use Rattle.cert_check.specs.Courses.{Course}
use Rattle.cert_check.specs.Room.{GivesRoom, HasRoom, KeepsRoom}
use Rattle.cert_check.specs.Units.{target_entered}
use Rattle.cert_check.specs.Walks.{Scope, body_walked, chosen_in, entered, if_else, loop_used, name_entered, named, repeated, taken, taken_from, token_taken, type_called, types_called, walked}
use Rattle.cert_check.proofs.Calling.{target_moved}
use Rattle.cert_check.proofs.Followed.{Follows, HasFewNew, Moved, among_all, moved_self}
use Rattle.cert_check.proofs.Keeping.{loop_moved, told_by}
use Rattle.cert_check.proofs.Walked.{AreSound, Comes, Moves, body_entered, body_moved, chosen_moved, entered_moved, if_else_moved, name_moved, named_moved, repeated_moved, taken_from_moved, taken_moved, token_moved, type_moved, types_moved, walked_ends}

-- what counts makes room
pub room_on : (style : Style) (more few low high : ℕ) (state : State) → few ≤ more → low ≤ high → HasRoom style more low state → HasRoom style few high state
room_on style more few low high state less rises room = let fits = room.few in record { made = room.made; few = omega (arith, fits, less, rises) }

pub all_room : (style : Style) (low high : ℕ) (states : List State) → low ≤ high → All (HasRoom style 0 low) states → All (HasRoom style 0 high) states
all_room style low high states rises room =
    All-weaker (HasRoom style 0 low) (HasRoom style 0 high) (λ state h. room_on style 0 0 low high state (omega arith) rises h) states room

-- a rule on one state
pub moved_room : (scope : Scope) (more : ℕ) (start : State) (before after : Course) → Moved scope more start before after
    → HasRoom scope.style more before.count start → KeepsRoom scope.style before after
moved_room scope more start before after moved room = record {
  count = moved.count;
  given = λ given.
      All-same (HasRoom scope.style 0 after.count) after.given (before.given ++ moved.more) moved.given
      (All-append (HasRoom scope.style 0 after.count) before.given moved.more (all_room scope.style before.count after.count before.given moved.count given)
      (states_room scope more start before.count after.count moved.more room moved.follow moved.few));
}
  where
    states_room : (scope : Scope) (more : ℕ) (start : State) (low high : ℕ) (states : List State) → HasRoom scope.style more low start
        → All (Follows scope start) states → All (HasFewNew more low high start) states → All (HasRoom scope.style 0 high) states
    states_room scope more start low high [] room follow few = All-nil (HasRoom scope.style 0 high)
    states_room scope more start low high (state ∷ states) room follow few =
        let here = All-head (HasFewNew more low high start) state states few in
        let fits = room.few in
        let follows = All-head (Follows scope start) state states follow in
        All-cons (HasRoom scope.style 0 high) state states (record { made = follows.made; few = omega (arith, here, fits) })
        (states_room scope more start low high states room (All-tail (Follows scope start) state states follow) (All-tail (HasFewNew more low high start) state states few))

-- rules on states that come from those of a list
come_room : (scope : Scope) (starts : List State) (low high : ℕ) (states : List State) → All (HasRoom scope.style 0 low) starts
    → All (Comes scope starts low high) states → All (HasRoom scope.style 0 high) states
come_room scope starts low high states room come =
    All-weaker (Comes scope starts low high) (HasRoom scope.style 0 high)
    (λ state one.
    let from = among_all (HasRoom scope.style 0 low) one.start starts one.among room in
    let fits = from.few in
    let here = one.few in
    record { made = one.follows.made; few = omega (arith, fits, here) }) states come

made_of : (style : Style) (count : ℕ) (states : List State) → All (HasRoom style 0 count) states → All (WellMade style) states
made_of style count states room = All-weaker (HasRoom style 0 count) (WellMade style) (λ state one. one.made) states room

-- a token is taken from a state
pub taken_room : (scope : Scope) (depth : ℕ) (t : TokenAt) (state : State) (course after : Course) → IsSound scope.style → IsCertified scope.style scope.cert → IfSome scope.make (MakesLoops scope.style)
    → IsTokenSound scope.style.names scope.style.bodies scope.style.texts t.token → HasRoom scope.style 0 course.count state
    → taken scope (body_walked scope depth) t state course ≡ Ok after → KeepsRoom scope.style course after
taken_room scope depth t state course after sound cert makes token room e =
    let told = told_by scope sound cert makes in
    moved_room scope 0 state course after (taken_moved scope (body_walked scope depth) t state told (body_moved scope depth told) room.made token course after e) room

-- and from states, one after the other
pub taken_from_room : (scope : Scope) (depth : ℕ) (t : TokenAt) (states : List State) (course after : Course) → IsSound scope.style
    → IsCertified scope.style scope.cert → IfSome scope.make (MakesLoops scope.style) → IsTokenSound scope.style.names scope.style.bodies scope.style.texts t.token → All (HasRoom scope.style 0 course.count) states
    → taken_from scope (body_walked scope depth) t states course ≡ Ok after → KeepsRoom scope.style course after
taken_from_room scope depth t states course after sound cert makes token room e =
    let told = told_by scope sound cert makes in
    let moved = taken_from_moved scope (body_walked scope depth) t states course after told (body_moved scope depth told) token
    (made_of scope.style course.count states room) e in
    record {
      count = moved.count;
      given = λ given.
          All-same (HasRoom scope.style 0 after.count) after.given (course.given ++ moved.more) moved.given
          (All-append (HasRoom scope.style 0 after.count) course.given moved.more (all_room scope.style course.count after.count course.given moved.count given)
          (come_room scope states course.count after.count moved.more room moved.come));
    }

-- the tokens of a body
pub walked_room : (scope : Scope) (depth : ℕ) (tokens : List TokenAt) (course after : Course) → IsSound scope.style → IsCertified scope.style scope.cert → IfSome scope.make (MakesLoops scope.style)
    → AreSound scope tokens → GivesRoom scope.style course → walked scope (body_walked scope depth) tokens course ≡ Ok after → KeepsRoom scope.style course after
walked_room scope depth tokens course after sound cert makes are room e =
    let told = told_by scope sound cert makes in
    let ended = walked_ends scope (body_walked scope depth) tokens course after told (body_moved scope depth told) are
    (made_of scope.style course.count course.given room) e in
    record { count = ended.count; given = λ given. come_room scope course.given course.count after.count after.given given ended.come }

-- a body
pub body_room : (scope : Scope) (depth : ℕ) (place : Place) (body : BodyId) (state : State) (course after : Course) → IsSound scope.style
    → IsCertified scope.style scope.cert → IfSome scope.make (MakesLoops scope.style) → HasRoom scope.style 0 course.count state → body_walked scope depth place body state course ≡ Ok after
    → KeepsRoom scope.style course after
body_room scope depth place body state course after sound cert makes room e =
    moved_room scope 0 state course after (body_moved scope depth (told_by scope sound cert makes) place body state room.made course after e) room

-- what a token gives that has counted
pub token_room : (scope : Scope) (depth : ℕ) (t : Token) (place : Place) (state : State) (course after : Course) → IsSound scope.style
    → IsCertified scope.style scope.cert → IfSome scope.make (MakesLoops scope.style) → IsTokenSound scope.style.names scope.style.bodies scope.style.texts t → HasRoom scope.style 65 course.count state
    → token_taken scope (body_walked scope depth) t place state course ≡ Ok after → KeepsRoom scope.style course after
token_room scope depth t place state course after sound cert makes token room e =
    let told = told_by scope sound cert makes in
    moved_room scope 65 state course after
    (token_moved scope (body_walked scope depth) t place state told (body_moved scope depth told) room.made token course after e) room

-- a name of a kind that is called, which has counted
pub named_room : (scope : Scope) (depth : ℕ) (found : Option Kind) (name : NameId) (place : Place) (state : State) (course after : Course) → IsSound scope.style
    → IsCertified scope.style scope.cert → IfSome scope.make (MakesLoops scope.style) → HasRoom scope.style 65 course.count state
    → (let enter = body_walked scope depth in named scope enter (chosen_in scope enter place) found name place state course ≡ Ok after)
    → KeepsRoom scope.style course after
named_room scope depth found name place state course after sound cert makes room e =
    let told = told_by scope sound cert makes in
    let enters = body_moved scope depth told in
    let enter = body_walked scope depth in
    moved_room scope 65 state course after
    (named_moved scope enter (chosen_in scope enter place) found name place state told enters room.made (chosen_moved scope enter place state told enters room.made) course after e) room

-- a name that is entered and counts
pub name_room : (scope : Scope) (depth : ℕ) (place : Place) (name : NameId) (state : State) (stack : List Sym) (course after : Course) → IsSound scope.style
    → IsCertified scope.style scope.cert → IfSome scope.make (MakesLoops scope.style) → HasRoom scope.style 0 course.count state → AreBelow state stack
    → (let enter = body_walked scope depth in name_entered scope enter (if_else scope enter place stack) place name state course ≡ Ok after)
    → KeepsRoom scope.style course after
name_room scope depth place name state stack course after sound cert makes room below e =
    let told = told_by scope sound cert makes in
    let enters = body_moved scope depth told in
    let enter = body_walked scope depth in
    moved_room scope 0 state course after
    (name_moved scope enter (if_else scope enter place stack) place name state told enters room.made
    (if_else_moved scope enter place stack state told enters room.made below) course after e) room

-- `if$`, which has counted
pub if_else_room : (scope : Scope) (depth : ℕ) (place : Place) (stack : List Sym) (state : State) (course after : Course) → IsSound scope.style
    → IsCertified scope.style scope.cert → IfSome scope.make (MakesLoops scope.style) → HasRoom scope.style 65 course.count state → AreBelow state stack
    → if_else scope (body_walked scope depth) place stack state course ≡ Ok after → KeepsRoom scope.style course after
if_else_room scope depth place stack state course after sound cert makes room below e =
    let told = told_by scope sound cert makes in
    moved_room scope 65 state course after
    (if_else_moved scope (body_walked scope depth) place stack state told (body_moved scope depth told) room.made below course after e) room

-- the cases that it enters have less room by one
pub cases_room : (style : Style) (admits : Cond) (state : State) (s : Sym) (hints : List Hint) (labelled : Labelled) (count : ℕ) → s.0 < state.next
    → HasRoom style 65 count state → above_of admits state s hints ≡ Ok labelled → All (λ case. HasRoom style 64 count case.1) labelled.cases
cases_room style admits state s hints labelled count below room e =
    each labelled.cases (above_made style admits state s hints labelled room.made below e) (above_left admits state s hints labelled e)
  where
    each : (cases : List (Bool × State)) → All (λ case. WellMade style case.1) cases → All (λ case. LeavesVariables state case.1) cases
        → All (λ case. HasRoom style 64 count case.1) cases
    each [] made left = All-nil (λ (case : Bool × State). HasRoom style 64 count case.1)
    each (case ∷ cases) made left =
        let here = All-head (λ (one : Bool × State). LeavesVariables state one.1) case cases left in
        let few = here.extends.few in
        let fits = room.few in
        All-cons (λ (one : Bool × State). HasRoom style 64 count one.1) case cases (record {
          made = All-head (λ (one : Bool × State). WellMade style one.1) case cases made;
          few = omega (arith, few, fits);
        })
        (each cases (All-tail (λ (one : Bool × State). WellMade style one.1) case cases made)
        (All-tail (λ (one : Bool × State). LeavesVariables state one.1) case cases left))

-- a body that is entered with or without a summary
pub entered_room : (scope : Scope) (depth : ℕ) (place : Place) (target : Target) (body : BodyId) (state : State) (course after : Course) → IsSound scope.style
    → IsCertified scope.style scope.cert → IfSome scope.make (MakesLoops scope.style) → HasRoom scope.style 64 course.count state
    → entered scope place target (body_walked scope depth place body) state course ≡ Ok after → KeepsRoom scope.style course after
entered_room scope depth place target body state course after sound cert makes room e =
    let told = told_by scope sound cert makes in
    moved_room scope 64 state course after
    (body_entered scope (body_walked scope depth) place target body state told (body_moved scope depth told) room.made course after e) room

-- what is entered before a walk, if it is walked
pub come_in_room : (scope : Scope) (place : Place) (target : Target) (state : State) (course after : Course) → IsSound scope.style
    → IsCertified scope.style scope.cert → IfSome scope.make (MakesLoops scope.style) → HasRoom scope.style 64 course.count state
    → entered scope place target (λ s c. Ok c) state course ≡ Ok after → KeepsRoom scope.style course after
come_in_room scope place target state course after sound cert makes room e =
    let stays : Moves scope 64 (λ s c. Ok c) state =
    λ begun ended is. subst (Moved scope 64 state begun) (sym (ok_is begun ended is)) (moved_self scope 64 state begun) in
    moved_room scope 64 state course after
    (entered_moved scope 64 place target (λ s c. Ok c) state (told_by scope sound cert makes) (omega arith) room.made stays course after e) room

-- the target of a call, where nothing has counted for it
pub target_room : (scope : Scope) (place : Place) (target : Target) (state : State) (course after : Course) → IsSound scope.style
    → IsCertified scope.style scope.cert → IfSome scope.make (MakesLoops scope.style) → HasRoom scope.style 64 course.count state → target_entered scope place target state course ≡ Ok after
    → KeepsRoom scope.style course after
target_room scope place target state course after sound cert makes room e =
    moved_room scope 64 state course after (target_moved scope target place state (told_by scope sound cert makes) room.made course after e) room

-- a loop that is used
pub loop_room : (scope : Scope) (place : Place) (one : Loop) (state : State) (course after : Course) → IsSound scope.style → IsCertified scope.style scope.cert → IfSome scope.make (MakesLoops scope.style)
    → IsLoopOf scope.style one → HasRoom scope.style 64 course.count state → loop_used scope place one state course ≡ Ok after → KeepsRoom scope.style course after
loop_room scope place one state course after sound cert makes is room e =
    moved_room scope 64 state course after (loop_moved scope place one state course after (told_by scope sound cert makes) is room.made e) room

-- `while$`, which has counted
pub repeated_room : (scope : Scope) (place : Place) (state : State) (course after : Course) → IsSound scope.style → IsCertified scope.style scope.cert → IfSome scope.make (MakesLoops scope.style)
    → HasRoom scope.style 64 course.count state → repeated scope place state course ≡ Ok after → KeepsRoom scope.style course after
repeated_room scope place state course after sound cert makes room e =
    moved_room scope 64 state course after (repeated_moved scope place state (told_by scope sound cert makes) room.made course after e) room

-- a function that `call.type$` enters, and all of them
pub type_room : (scope : Scope) (depth : ℕ) (place : Place) (name : NameId) (state : State) (course after : Course) → IsSound scope.style
    → IsCertified scope.style scope.cert → IfSome scope.make (MakesLoops scope.style) → HasRoom scope.style 0 course.count state → type_called scope (body_walked scope depth) place name state course ≡ Ok after
    → KeepsRoom scope.style course after
type_room scope depth place name state course after sound cert makes room e =
    let told = told_by scope sound cert makes in
    moved_room scope 0 state course after (type_moved scope (body_walked scope depth) place name state told (body_moved scope depth told) room.made course after e) room

pub types_room : (scope : Scope) (depth : ℕ) (place : Place) (names : List NameId) (state : State) (course after : Course) → IsSound scope.style
    → IsCertified scope.style scope.cert → IfSome scope.make (MakesLoops scope.style) → HasRoom scope.style 0 course.count state → types_called scope (body_walked scope depth) place names state course ≡ Ok after
    → KeepsRoom scope.style course after
types_room scope depth place names state course after sound cert makes room e =
    let told = told_by scope sound cert makes in
    moved_room scope 0 state course after (types_moved scope (body_walked scope depth) place names state told (body_moved scope depth told) room.made course after e) room

-- what a target gives where nothing was given before keeps the room that the state has beside the target's
pub target_leaves : (scope : Scope) (place : Place) (target : Target) (more : ℕ) (state : State) (course after : Course) → IsSound scope.style
    → IsCertified scope.style scope.cert → IfSome scope.make (MakesLoops scope.style) → HasRoom scope.style (more + 64) course.count state → course.given ≡ []
    → target_entered scope place target state course ≡ Ok after → All (HasRoom scope.style more after.count) after.given
target_leaves scope place target more state course after sound cert makes room none e =
    let moved = target_moved scope target place state (told_by scope sound cert makes) room.made course after e in
    All-same (HasRoom scope.style more after.count) after.given moved.more (moved.given ∙ ap (λ (l : List State). l ++ moved.more) none)
    (each moved.more moved.follow moved.few)
  where
    each : (states : List State) → All (Follows scope state) states → All (HasFewNew 64 course.count after.count state) states
        → All (HasRoom scope.style more after.count) states
    each [] follow few = All-nil (HasRoom scope.style more after.count)
    each (first ∷ states) follow few =
        let here = All-head (HasFewNew 64 course.count after.count state) first states few in
        let fits = room.few in
        let follows = All-head (Follows scope state) first states follow in
        All-cons (HasRoom scope.style more after.count) first states (record { made = follows.made; few = omega (arith, here, fits) })
        (each states (All-tail (Follows scope state) first states follow) (All-tail (HasFewNew 64 course.count after.count state) first states few))

-- the state that pieces start: there is room for two targets and the integer between them, as a turn of a loop has
pub started_wide : (style : Style) (admits : Cond) (pieces : List Piece) (whole at_entry : Bool) → IsSound style → HasSmallFields admits
    → All IsNumbered pieces → All (IsFit style) pieces → all_symbols pieces ≤ 2147000000 → HasRoom style 129 0 (started style admits pieces whole at_entry)
started_wide style admits pieces whole at_entry sound small numbered fit few =
    let binds : List Bind = bound_by (numbered_on 0 pieces) in
    let names : List NameId = names_in_play style at_entry in
    let seated = count_by-le-length (λ (name : NameId). is_none (symbol_at name binds)) names in
    let all = ids_from-length (takes_part at_entry) 0 style.names in
    let most = sound.few_names in
    record {
      made = started_well_made style admits pieces whole at_entry small numbered fit;
      few = omega (arith, seated, all, most, few);
    }

-- and so for one
pub started_room : (style : Style) (admits : Cond) (pieces : List Piece) (whole at_entry : Bool) → IsSound style → HasSmallFields admits
    → All IsNumbered pieces → All (IsFit style) pieces → all_symbols pieces ≤ 2147000000 → HasRoom style 65 0 (started style admits pieces whole at_entry)
started_room style admits pieces whole at_entry sound small numbered fit few =
    room_on style 129 65 0 0 (started style admits pieces whole at_entry) (omega arith) (omega arith)
    (started_wide style admits pieces whole at_entry sound small numbered fit few)
