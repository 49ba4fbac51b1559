-- What a walk that is Ok gives of a well-made state: states that follow it.
use Rattle.std.proofs.Common.{◌≡◌, ℕ, zero, suc, ◌+◌, ◌<◌, ◌≤◌, Bool, true, false, cond, List, [], ◌∷◌, ◌++◌, reverse, slice_get, Option, None, Some, IfSome, Ok, refl, sym, ap, ◌∙◌, subst, append_assoc, arith, inl, inr}
use Rattle.std.specs.List.{All}
use Rattle.std.specs.Option.{option_map_or}
use Rattle.std.proofs.lemmas.List.{append-nil}
use Rattle.std.proofs.lemmas.List.Elements.{All-append, All-cons, All-head, All-nil, All-same, All-tail, All-weaker}
use Rattle.bv_base.specs.declared.place.Place.{Place}
use Rattle.bv_base.specs.Answers.{then_do}
use Rattle.bv_base.proofs.ThenLemmas.{ok_is, then_ok, where_ok}
use Rattle.name_table.specs.Sound.{Each, IsSound, IsTokenSound}
use Rattle.name_table.specs.declared.builtin.Builtin.{Builtin}
use Rattle.name_table.specs.declared.builtin.Builtin.TheVariants as op
use Rattle.name_table.specs.declared.names.Kind.{Kind}
use Rattle.name_table.specs.declared.names.Kind.TheVariants as kind
use Rattle.name_table.specs.declared.names.NameId.{NameId}
use Rattle.name_table.specs.declared.style.Body.{Body}
use Rattle.name_table.specs.declared.style.BodyId.{BodyId}
use Rattle.name_table.specs.declared.style.Token.{Token}
use Rattle.name_table.specs.declared.style.Token.TheVariants as token
use Rattle.name_table.specs.declared.style.TokenAt.{TokenAt}
use Rattle.name_table.proofs.Within.{got}
use Rattle.bst_meaning.specs.StyleParts.{kind_of, tokens_of}
use Rattle.bst_meaning.specs.declared.value.Target.{Target}
use Rattle.bst_meaning.specs.declared.value.Target.TheVariants.{Named, Block}
use Rattle.cert_format.specs.declared.cert.Summary.{Summary}
use Rattle.sym_state.specs.State.{State}
use Rattle.sym_state.specs.Cases.{above_of}
use Rattle.sym_state.specs.Demands.{HasFewUses, Three, is_of_kind, three_by}
use Rattle.sym_state.specs.Frames.{LeavesVariables}
use Rattle.sym_state.specs.WellMade.{WellMade}
use Rattle.sym_state.specs.declared.hint.Hint.{Hint}
use Rattle.sym_state.specs.declared.hint.Hint.TheVariants as hint
use Rattle.sym_state.specs.declared.symbol.Kinds.TheVariants.{Int, Func}
use Rattle.sym_state.specs.declared.symbol.Sym.{Sym}
use Rattle.sym_state.proofs.Below.{AreBelow}
use Rattle.sym_state.proofs.Frames.{all_reversed}
use Rattle.sym_state.proofs.Leaving.{left_twice, moved}
use Rattle.sym_state.proofs.Resulting.{rest_made}
use Rattle.refinements.specs.Covered.{IsAmong}
use Rattle.refinements.proofs.Framing.{above_left}
use Rattle.refinements.proofs.HintsTaken.{labelled_hints_keep}
use Rattle.refinements.proofs.Kept.{above_made}
use Rattle.straight_hints.specs.Found.{above_hints}
use Rattle.cert_check.specs.Certified.{HasMade, IsLoopOf, IsSummaryOf, MakesLoops}
use Rattle.cert_check.specs.Courses.{Course, behind, counts, gives, gives_all, placed}
use Rattle.cert_check.specs.Walks.{Call, Enter, Make, Making, Onward, Scope, all_made, body_walked, built_in, cases_entered, choice, chosen, chosen_in, each_taken, entered, entered_by, entering, exact_target, function_entered, has_summary, hints_of_choice, if_else, is_target, is_while_token, is_wizard, literal_state, making_for, name_entered, named, none_made, repeated, summary_used, taken, taken_by, taken_from, test_of, token_taken, type_called, type_functions, type_walked, types_called, use_of, walked, while_by_make, while_taken, whiles_taken}
use Rattle.cert_check.proofs.Followed.{Follows, HasFewNew, KeepsLoops, Moved, among_all, behind_moved, counted_moved, follows_self, follows_twice, left_follows, moved_from, moved_self, moved_twice, moved_within, one_given, rehinted}
use Rattle.cert_check.proofs.Inverted.{gives_all_ok, placed_ok}
use Rattle.cert_check.proofs.Keeping.{Told, element, loop_moved, nothing_entered, token_few, token_follows, used_moved, variable_moved}
use Rattle.cert_check.proofs.Repeating.{repeated_ok, without_two}
use Rattle.cert_check.proofs.Makings.{KeepsMade, all_written, alone_moved, popped_follows, while_moved}

-- a way on from a state gives states that follow it
abbrev pub Moves : Scope → ℕ → Onward → State → Type 0
Moves scope room walk state = (course after : Course) → walk state course ≡ Ok after → Moved scope room state course after

-- a body that is entered gives states that follow
abbrev pub Enters : Scope → Enter → Type 0
Enters scope enter = (place : Place) (body : BodyId) (state : State) → WellMade scope.style state → Moves scope 0 (enter place body) state

-- so does a call
abbrev pub Calls : Scope → Call → List Sym → Type 0
Calls scope call stack = (name : NameId) (state : State) → WellMade scope.style state → AreBelow state stack → Moves scope 0 (call name) state

pub found_one : {X : Type 0} (P : X → Type 0) (xs : List X) (k : ℕ) → All P xs → IfSome (slice_get xs k) P
found_one P [] k all = tt
found_one P (x ∷ xs) zero all = All-head P x xs all
found_one P (x ∷ xs) (suc k) all = found_one P xs k (All-tail P x xs all)

hint_taken : (hint : Hint) (hints : List Hint) (course : Course) → course.hints ≡ hint ∷ hints → All HasFewUses course.hints → All HasFewUses hints
hint_taken hint hints course is short = All-tail HasFewUses hint hints (subst (All HasFewUses) is short)

-- a summary that a hint names
use_moved : (scope : Scope) (place : Place) (target : Target) (k : ℕ) (found : Option Summary) (state : State) → Told scope
    → slice_get scope.cert.summaries k ≡ found → WellMade scope.style state → Moves scope 64 (use_of scope place target found) state
use_moved scope place target k None state told there made course after e = absurd (cc)
use_moved scope place target k (Some summary) state told there made course after e =
    let is = element (IsSummaryOf scope.style) scope.cert.summaries k summary told.summaries there in
    used_moved scope place summary state course after told is made (where_ok (is_target summary.body target) (summary_used scope place summary state course) _ after e).1

by_hint : (scope : Scope) (room : ℕ) (place : Place) (target : Target) (walk : Onward) (state : State) (hints : List Hint) (course after : Course) → Told scope
    → 64 ≤ room → course.hints ≡ hints → WellMade scope.style state → Moves scope room walk state → entered_by scope place target walk state course hints ≡ Ok after
    → Moved scope room state course after
by_hint scope room place target walk state [] course after told wide is made moves e = absurd (cc)
by_hint scope room place target walk state (hint.Apply k ∷ hints) course after told wide is made moves e =
    rehinted scope room state course after hints (hint_taken (hint.Apply k) hints course is)
    (moved_within scope 64 room state (record course { hints = hints }) after wide
    (use_moved scope place target k (slice_get scope.cert.summaries k) state told refl made (record course { hints = hints }) after e))
by_hint scope room place target walk state (hint.Walk ∷ hints) course after told wide is made moves e =
    rehinted scope room state course after hints (hint_taken hint.Walk hints course is) (moves (record course { hints = hints }) after e)
by_hint scope room place target walk state (_ ∷ hints) course after told wide is made moves e = absurd (cc)

pub entered_moved : (scope : Scope) (room : ℕ) (place : Place) (target : Target) (walk : Onward) (state : State) → Told scope → 64 ≤ room
    → WellMade scope.style state → Moves scope room walk state → Moves scope room (entered scope place target walk) state
entered_moved scope room place target walk state told wide made moves course after e =
    elim (has_summary scope.cert target) as (λ (t : Bool). cond t (entered_by scope place target walk state course course.hints) (walk state course) ≡ Ok after
    → Moved scope room state course after) [
      | true ↦ λ used. by_hint scope room place target walk state course.hints course after told wide refl made moves used
      | false ↦ λ walked. moves course after walked
    ] e

-- a body that is entered with or without a summary
pub body_entered : (scope : Scope) (enter : Enter) (place : Place) (target : Target) (body : BodyId) (state : State) → Told scope → Enters scope enter
    → WellMade scope.style state → Moves scope 64 (entered scope place target (enter place body)) state
body_entered scope enter place target body state told enters made =
    entered_moved scope 64 place target (enter place body) state told (omega arith) made
    (λ course after e. moved_within scope 0 64 state course after (omega arith) (enters place body state made course after e))

-- what `if$` enters in a case
function_moved : (scope : Scope) (enter : Enter) (call : Call) (place : Place) (target : Option Target) (stack : List Sym) (state : State) → Told scope
    → Enters scope enter → Calls scope call stack → WellMade scope.style state → AreBelow state stack
    → Moves scope 64 (function_entered scope enter call place target) state
function_moved scope enter call place None stack state told enters calls made below course after e = absurd (cc)
function_moved scope enter call place (Some (Named name)) stack state told enters calls made below course after e =
    moved_within scope 0 64 state course after (omega arith) (calls name state made below course after e)
function_moved scope enter call place (Some (Block body)) stack state told enters calls made below course after e =
    body_entered scope enter place (Block body) body state told enters made course after e

-- a case that follows the state, with its own symbols below
pub record CaseFollows (scope : Scope) (start : State) (stack : List Sym) (case : Bool × State) : Type 0 where
  pub follows : Follows scope start case.1
  pub few : case.1.next ≤ start.next + 1
  pub below : AreBelow case.1 stack

pub cases_moved : (scope : Scope) (enter : Enter) (call : Call) (place : Place) (three : Three) (stack : List Sym) (start : State) (cases : List (Bool × State)) (course after : Course)
    → Told scope → Enters scope enter → Calls scope call stack → All (CaseFollows scope start stack) cases
    → cases_entered scope enter call place three cases course ≡ Ok after → Moved scope 65 start course after
cases_moved scope enter call place three stack start [] course after told enters calls all e =
    subst (Moved scope 65 start course) (sym (ok_is course after e)) (moved_self scope 65 start course)
cases_moved scope enter call place three stack start (case ∷ cases) course after told enters calls all e =
    let target = exact_target scope.style case.1 (cond case.0 three.middle three.top) in
    let first = then_ok (function_entered scope enter call place target case.1 course) (cases_entered scope enter call place three cases) after e in
    let here = All-head (CaseFollows scope start stack) case cases all in
    let few = here.few in
    moved_twice scope 65 start course first.0 after
    (moved_from scope 64 65 start case.1 course first.0 here.follows (omega (arith, few))
    (function_moved scope enter call place target stack case.1 told enters calls here.follows.made here.below course first.0 first.1))
    (cases_moved scope enter call place three stack start cases first.0 after told enters calls (All-tail (CaseFollows scope start stack) case cases all) first.2)

-- the operands of `if$`
pub record ThreeMet (state : State) (a b c : Sym) (rest : List Sym) (three : Three) : Type 0 where
  pub is : three ≡ record { lowest = a; middle = b; top = c; rest = record state { stack = reverse rest } }
  pub top : is_of_kind state Func c ≡ true
  pub middle : is_of_kind state Func b ≡ true
  pub lowest : is_of_kind state Int a ≡ true

pub three_ok : (state : State) (a b c : Sym) (rest : List Sym) (three : Three) → three_by Int Func Func (c ∷ (b ∷ (a ∷ rest))) state ≡ Ok three
    → ThreeMet state a b c rest three
three_ok state a b c rest three e =
    let top = where_ok (is_of_kind state Func c) _ _ three e in
    let middle = where_ok (is_of_kind state Func b) _ _ three top.1 in
    let lowest = where_ok (is_of_kind state Int a) _ _ three middle.1 in
    record { is = ok_is _ three lowest.1; top = top.0; middle = middle.0; lowest = lowest.0 }

pub cases_follow : (scope : Scope) (state : State) (rest : List Sym) (cases : List (Bool × State)) → AreBelow state rest
    → All (λ one. WellMade scope.style one.1) cases → All (λ one. LeavesVariables (record state { stack = reverse rest }) one.1) cases
    → All (CaseFollows scope state rest) cases
cases_follow scope state rest [] below made left = All-nil (CaseFollows scope state rest)
cases_follow scope state rest (case ∷ cases) below made left =
    let popped : State = record state { stack = reverse rest } in
    let here = All-head (λ (one : Bool × State). LeavesVariables popped one.1) case cases left in
    let more = here.extends.next in
    All-cons (CaseFollows scope state rest) case cases (record {
      follows = left_follows scope state case.1 (All-head (λ (one : Bool × State). WellMade scope.style one.1) case cases made)
          (left_twice state popped case.1 (omega arith) (moved state (reverse rest)) here);
      few = here.extends.few;
      below = All-weaker (λ (s : Sym). s.0 < state.next) (λ (s : Sym). s.0 < case.1.next) (λ s h. omega (arith, h, more)) rest below;
    }) (cases_follow scope state rest cases below (All-tail (λ (one : Bool × State). WellMade scope.style one.1) case cases made)
    (All-tail (λ (one : Bool × State). LeavesVariables popped one.1) case cases left))

choice_moved : (scope : Scope) (enter : Enter) (call : Call) (place : Place) (a b c : Sym) (rest : List Sym) (state : State) (course after : Course)
    → Told scope → Enters scope enter → Calls scope call rest → WellMade scope.style state → AreBelow state (c ∷ (b ∷ (a ∷ rest)))
    → chosen scope enter call place (c ∷ (b ∷ (a ∷ rest))) state course ≡ Ok after → Moved scope 65 state course after
choice_moved scope enter call place a b c rest state course after told enters calls made below e =
    let popped : State = record state { stack = reverse rest } in
    let found : Three = record { lowest = a; middle = b; top = c; rest = popped } in
    let taken = then_ok (placed place (three_by Int Func Func (c ∷ (b ∷ (a ∷ rest))) state)) (λ three. choice scope enter call place three course) after e in
    let met = three_ok state a b c rest taken.0 (placed_ok place (three_by Int Func Func (c ∷ (b ∷ (a ∷ rest))) state) taken.0 taken.1) in
    let chose : choice scope enter call place found course ≡ Ok after = subst (λ (three : Three). choice scope enter call place three course ≡ Ok after) met.is taken.2 in
    let lower = All-tail (λ (s : Sym). s.0 < state.next) c (b ∷ (a ∷ rest)) below in
    let lowest = All-tail (λ (s : Sym). s.0 < state.next) b (a ∷ rest) lower in
    let under = All-tail (λ (s : Sym). s.0 < state.next) a rest lowest in
    let old = All-head (λ (s : Sym). s.0 < state.next) a rest lowest in
    let hints = hints_of_choice scope found course in
    let weighed = above_of scope.cert.cond popped a hints in
    let split = then_ok (placed place weighed) (λ labelled. cases_entered scope enter call place found labelled.cases (behind hints labelled.hints course))
    after chose in
    let cases = placed_ok place weighed split.0 split.1 in
    behind_moved scope 65 state course after (λ finding. above_hints finding scope.cert.cond popped a) split.0.hints
    (labelled_hints_keep HasFewUses scope.cert.cond popped a hints split.0 cases)
    (cases_moved scope enter call place found rest state split.0.cases (behind hints split.0.hints course) after told enters calls
    (cases_follow scope state rest split.0.cases under
    (above_made scope.style scope.cert.cond popped a hints split.0 (rest_made scope.style state rest made under) old cases)
    (above_left scope.cert.cond popped a hints split.0 cases)) split.2)

-- a loop is used in it
pub repeated_moved : (scope : Scope) (place : Place) (state : State) → Told scope → WellMade scope.style state → Moves scope 64 (repeated scope place) state
repeated_moved scope place state told made course after e =
    let is = repeated_ok scope place state course after e in
    let popped : State = without_two state (reverse state.stack) is.met in
    let follows = popped_follows scope state is.met made in
    rehinted scope 64 state course after is.loop.hints (hint_taken (hint.Loop is.loop.k) is.loop.hints course is.loop.named)
    (moved_from scope 64 64 state popped (record course { hints = is.loop.hints }) after follows (omega arith)
    (loop_moved scope place is.loop.one popped (record course { hints = is.loop.hints }) after told
    (element (IsLoopOf scope.style) scope.cert.loops is.loop.k is.loop.one told.loops is.loop.there) follows.made is.loop.used))

-- a function that `call.type$` enters
pub type_moved : (scope : Scope) (enter : Enter) (place : Place) (name : NameId) (state : State) → Told scope → Enters scope enter → WellMade scope.style state
    → Moves scope 0 (type_called scope enter place name) state
type_moved scope enter place name state told enters made course after e =
    let mid = then_ok (counts 1 place course) (entered scope place (Named name) (type_walked enter (kind_of scope.style name) place) state) after e in
    counted_moved scope 1 0 state place course mid.0 after mid.1
    (entered_moved scope 65 place (Named name) (type_walked enter (kind_of scope.style name) place) state told (omega arith) made
    (by_kind (kind_of scope.style name)) mid.0 after mid.2)
  where
    stays : Moves scope 65 (gives place) state
    stays begun ended is = one_given scope 65 state state place begun ended (follows_self scope state made) (omega arith) is

    by_kind : (found : Option Kind) → Moves scope 65 (type_walked enter found place) state
    by_kind (Some (kind.Wizard body)) begun ended is = moved_within scope 0 65 state begun ended (omega arith) (enters place body state made begun ended is)
    by_kind _ begun ended is = stays begun ended is

pub types_moved : (scope : Scope) (enter : Enter) (place : Place) (names : List NameId) (state : State) → Told scope → Enters scope enter
    → WellMade scope.style state → Moves scope 0 (types_called scope enter place names) state
types_moved scope enter place [] state told enters made course after e =
    subst (Moved scope 0 state course) (sym (ok_is course after e)) (moved_self scope 0 state course)
types_moved scope enter place (name ∷ names) state told enters made course after e =
    let first = then_ok (type_called scope enter place name state course) (types_called scope enter place names state) after e in
    moved_twice scope 0 state course first.0 after (type_moved scope enter place name state told enters made course first.0 first.1)
    (types_moved scope enter place names state told enters made first.0 after first.2)

-- names
built_in_moved : (scope : Scope) (enter : Enter) (other : Onward) (o : Builtin) (place : Place) (state : State) → Told scope → Enters scope enter
    → WellMade scope.style state → Moves scope 65 other state → Moves scope 65 (built_in scope enter other o place) state
built_in_moved scope enter other op.IfElse place state told enters made moves course after e = moves course after e
built_in_moved scope enter other op.WhileDo place state told enters made moves course after e =
    moved_within scope 64 65 state course after (omega arith) (by_make scope.make refl e)
  where
    by_make : (make : Option Make) → scope.make ≡ make → while_by_make make scope place state course ≡ Ok after → Moved scope 64 state course after
    by_make None is e = repeated_moved scope place state told made course after e
    by_make (Some make) is e =
        alone_moved make scope place state course after told (subst (λ (o : Option Make). IfSome o (MakesLoops scope.style)) is told.makes) is made e
built_in_moved scope enter other op.CallType place state told enters made moves course after e =
    let at = where_ok state.at_entry (types_called scope enter place (type_functions scope.style scope.cert.cond) state course) _ after e in
    moved_within scope 0 65 state course after (omega arith)
    (types_moved scope enter place (type_functions scope.style scope.cert.cond) state told enters made course after at.1)
built_in_moved scope enter other o place state told enters made moves course after e =
    moved_within scope 1 65 state course after (omega arith) (nothing_entered scope o (test_of o) place state course after told made refl e)

pub named_moved : (scope : Scope) (enter : Enter) (other : Onward) (found : Option Kind) (name : NameId) (place : Place) (state : State) → Told scope
    → Enters scope enter → WellMade scope.style state → Moves scope 65 other state → Moves scope 65 (named scope enter other found name place) state
named_moved scope enter other (Some (kind.Builtin o)) name place state told enters made moves course after e =
    built_in_moved scope enter other o place state told enters made moves course after e
named_moved scope enter other (Some (kind.Wizard body)) name place state told enters made moves course after e =
    moved_within scope 64 65 state course after (omega arith) (body_entered scope enter place (Named name) body state told enters made course after e)
named_moved scope enter other _ name place state told enters made moves course after e =
    moved_within scope 0 65 state course after (omega arith) (variable_moved scope name place state course after made e)

entering_moved : (scope : Scope) (call : Onward) (found : Option Kind) (name : NameId) (place : Place) (state : State) → Told scope → WellMade scope.style state
    → Moves scope 65 call state → Moves scope 65 (entering scope call found name place) state
entering_moved scope call found name place state told made moves course after e =
    elim (is_wizard found) as (λ (t : Bool). cond t (call state course) (entered scope place (Named name) call state course) ≡ Ok after → Moved scope 65 state course after) [
      | true ↦ λ own. moves course after own
      | false ↦ λ other. entered_moved scope 65 place (Named name) call state told (omega arith) made moves course after other
    ] e

pub name_moved : (scope : Scope) (enter : Enter) (other : Onward) (place : Place) (name : NameId) (state : State) → Told scope → Enters scope enter
    → WellMade scope.style state → Moves scope 65 other state → Moves scope 0 (name_entered scope enter other place name) state
name_moved scope enter other place name state told enters made moves course after e =
    let found = kind_of scope.style name in
    let call = named scope enter other found name place in
    let mid = then_ok (counts 1 place course) (entering scope call found name place state) after e in
    counted_moved scope 1 0 state place course mid.0 after mid.1
    (entering_moved scope call found name place state told made (named_moved scope enter other found name place state told enters made moves) mid.0 after mid.2)

pub if_else_moved : (scope : Scope) (enter : Enter) (place : Place) (stack : List Sym) (state : State) → Told scope → Enters scope enter
    → WellMade scope.style state → AreBelow state stack → Moves scope 65 (if_else scope enter place stack) state
if_else_moved scope enter place [] state told enters made below course after e = absurd (cc)
if_else_moved scope enter place (c ∷ []) state told enters made below course after e = absurd (cc)
if_else_moved scope enter place (c ∷ (b ∷ [])) state told enters made below course after e = absurd (cc)
if_else_moved scope enter place (c ∷ (b ∷ (a ∷ rest))) state told enters made below course after e =
    let call = name_entered scope enter (if_else scope enter place rest) place in
    let calls : Calls scope call rest = λ name inner fine under.
    name_moved scope enter (if_else scope enter place rest) place name inner told enters fine (if_else_moved scope enter place rest inner told enters fine under) in
    choice_moved scope enter call place a b c rest state course after told enters calls made below e

-- tokens
abbrev pub AreSound : Scope → List TokenAt → Type 0
AreSound scope tokens = Each (λ at. IsTokenSound scope.style.names scope.style.bodies scope.style.texts at.token) tokens

pub chosen_moved : (scope : Scope) (enter : Enter) (place : Place) (state : State) → Told scope → Enters scope enter → WellMade scope.style state
    → Moves scope 65 (chosen_in scope enter place) state
chosen_moved scope enter place state told enters made course after e =
    if_else_moved scope enter place (reverse state.stack) state told enters made (all_reversed state.next state.stack made.stack) course after e

literal_moved : (scope : Scope) (t : Token) (place : Place) (state : State) (course after : Course) → Told scope → WellMade scope.style state
    → IsTokenSound scope.style.names scope.style.bodies scope.style.texts t → gives place (literal_state scope.style t state) course ≡ Ok after
    → Moved scope 65 state course after
literal_moved scope t place state course after told made sound e =
    let few = token_few scope t state in
    one_given scope 65 state (literal_state scope.style t state) place course after (token_follows scope t state told made sound) (omega (arith, few)) e

pub token_moved : (scope : Scope) (enter : Enter) (t : Token) (place : Place) (state : State) → Told scope → Enters scope enter → WellMade scope.style state
    → IsTokenSound scope.style.names scope.style.bodies scope.style.texts t → Moves scope 65 (token_taken scope enter t place) state
token_moved scope enter (token.Call name) place state told enters made sound course after e =
    named_moved scope enter (chosen_in scope enter place) (kind_of scope.style name) name place state told enters made
    (chosen_moved scope enter place state told enters made) course after e
token_moved scope enter (token.Int n) place state told enters made sound course after e =
    literal_moved scope (token.Int n) place state course after told made sound e
token_moved scope enter (token.Str text) place state told enters made sound course after e =
    literal_moved scope (token.Str text) place state course after told made sound e
token_moved scope enter (token.Quote name) place state told enters made sound course after e =
    literal_moved scope (token.Quote name) place state course after told made sound e
token_moved scope enter (token.Block body) place state told enters made sound course after e =
    literal_moved scope (token.Block body) place state course after told made sound e

pub taken_moved : (scope : Scope) (enter : Enter) (t : TokenAt) (state : State) → Told scope → Enters scope enter → WellMade scope.style state
    → IsTokenSound scope.style.names scope.style.bodies scope.style.texts t.token → Moves scope 0 (taken scope enter t) state
taken_moved scope enter t state told enters made sound course after e =
    let mid = then_ok (counts 1 t.place course) (token_taken scope enter t.token t.place state) after e in
    counted_moved scope 1 0 state t.place course mid.0 after mid.1
    (token_moved scope enter t.token t.place state told enters made sound mid.0 after mid.2)

-- a state that a walk gives follows one of those that it began with, and has few new symbols beside it
pub record Comes (scope : Scope) (starts : List State) (before after : ℕ) (state : State) : Type 0 where
  pub start : State
  pub among : IsAmong start starts
  pub follows : Follows scope start state
  pub few : HasFewNew 0 before after start state

-- they follow what all of those follow
pub come_follow : (scope : Scope) (first : State) (starts : List State) (before after : ℕ) (states : List State) → All (Follows scope first) starts
    → All (Comes scope starts before after) states → All (Follows scope first) states
come_follow scope first starts before after states follow come =
    All-weaker (Comes scope starts before after) (Follows scope first)
    (λ state one. follows_twice scope first one.start state (among_all (Follows scope first) one.start starts one.among follow) one.follows) states come

-- what counts before or behind
come_wider : (scope : Scope) (starts more : List State) (low before after high : ℕ) (states : List State) → low ≤ before → after ≤ high
    → ((state : State) → IsAmong state starts → IsAmong state more) → All (Comes scope starts before after) states → All (Comes scope more low high) states
come_wider scope starts more low before after high states less less_then wider come =
    All-weaker (Comes scope starts before after) (Comes scope more low high)
    (λ state one. let few = one.few in record {
      start = one.start;
      among = wider one.start one.among;
      follows = one.follows;
      few = omega (arith, few, less, less_then);
    }) states come

-- those of one state are those that a rule gives of it
come_of : (scope : Scope) (start : State) (before after : ℕ) (states : List State) → All (Follows scope start) states → All (HasFewNew 0 before after start) states
    → All (Comes scope (start ∷ []) before after) states
come_of scope start before after [] follow few = All-nil (Comes scope (start ∷ []) before after)
come_of scope start before after (state ∷ states) follow few =
    All-cons (Comes scope (start ∷ []) before after) state states (record {
      start = start;
      among = inl refl;
      follows = All-head (Follows scope start) state states follow;
      few = All-head (HasFewNew 0 before after start) state states few;
    })
    (come_of scope start before after states (All-tail (Follows scope start) state states follow) (All-tail (HasFewNew 0 before after start) state states few))

come_few : (scope : Scope) (start : State) (before after : ℕ) (states : List State) → All (Comes scope (start ∷ []) before after) states
    → All (HasFewNew 0 before after start) states
come_few scope start before after states come =
    All-weaker (Comes scope (start ∷ []) before after) (HasFewNew 0 before after start)
    (λ state one. of_only state one.start one.among one.few) states come
  where
    of_only : (state first : State) → IsAmong first (start ∷ []) → HasFewNew 0 before after first state → HasFewNew 0 before after start state
    of_only state first (inl is) few = subst (λ (s : State). HasFewNew 0 before after s state) is few
    of_only state first (inr none) few = absurd none

-- each of these states comes from itself
come_self : (scope : Scope) (count : ℕ) (states : List State) → All (WellMade scope.style) states → All (Comes scope states count count) states
come_self scope count [] made = All-nil (Comes scope [] count count)
come_self scope count (state ∷ states) made =
    All-cons (Comes scope (state ∷ states) count count) state states (record {
      start = state;
      among = inl refl;
      follows = follows_self scope state (All-head (WellMade scope.style) state states made);
      few = omega arith;
    })
    (come_wider scope states (state ∷ states) count count count count states (omega arith) (omega arith) (λ x among. inr among)
    (come_self scope count states (All-tail (WellMade scope.style) state states made)))

pub come_made : (scope : Scope) (starts : List State) (before after : ℕ) (states : List State) → All (Comes scope starts before after) states
    → All (WellMade scope.style) states
come_made scope starts before after states come =
    All-weaker (Comes scope starts before after) (WellMade scope.style) (λ state one. one.follows.made) states come

come_twice : (scope : Scope) (starts middle : List State) (low count high : ℕ) (states : List State) → All (Comes scope starts low count) middle
    → All (Comes scope middle count high) states → All (Comes scope starts low high) states
come_twice scope starts middle low count high states come later =
    All-weaker (Comes scope middle count high) (Comes scope starts low high)
    (λ state one.
    let first = among_all (Comes scope starts low count) one.start middle one.among come in
    let few = first.few in
    let few_then = one.few in
    record {
      start = first.start;
      among = first.among;
      follows = follows_twice scope first.start one.start state first.follows one.follows;
      few = omega (arith, few, few_then);
    }) states later

-- what rules give of states, one after the other
pub record MovedFrom (scope : Scope) (starts : List State) (before after : Course) : Type 0 where
  pub more : List State
  pub given : after.given ≡ before.given ++ more
  pub come : All (Comes scope starts before.count after.count) more
  pub count : before.count ≤ after.count
  pub short : All HasFewUses before.hints → All HasFewUses after.hints
  pub loops : KeepsLoops scope before after
  pub stay : after.stay ≡ before.stay

-- what a rule gives of the first state, and what it gives of the others
pub from_twice : (scope : Scope) (state : State) (states : List State) (before middle after : Course) → Moved scope 0 state before middle
    → MovedFrom scope states middle after → MovedFrom scope (state ∷ states) before after
from_twice scope state states before middle after one rest =
    let low = one.count in
    let high = rest.count in
    record {
      more = one.more ++ rest.more;
      given = rest.given ∙ ap (λ (l : List State). l ++ rest.more) one.given ∙ append_assoc before.given one.more rest.more;
      come = All-append (Comes scope (state ∷ states) before.count after.count) one.more rest.more
          (come_wider scope (state ∷ []) (state ∷ states) before.count before.count middle.count after.count one.more (omega arith) rest.count
          only_first (come_of scope state before.count middle.count one.more one.follow one.few))
          (come_wider scope states (state ∷ states) before.count middle.count after.count after.count rest.more one.count (omega arith)
          (λ x among. inr among) rest.come);
      count = omega (arith, low, high);
      short = λ short. rest.short (one.short short);
      loops = λ makes all. rest.loops makes (one.loops makes all);
      stay = rest.stay ∙ one.stay;
    }
  where
    only_first : (x : State) → IsAmong x (state ∷ []) → IsAmong x (state ∷ states)
    only_first x (inl is) = inl is
    only_first x (inr none) = absurd none

-- nothing is given of no state
pub from_none : (scope : Scope) (course : Course) → MovedFrom scope [] course course
from_none scope course = record {
  more = [];
  given = sym (append-nil course.given);
  come = All-nil (Comes scope [] course.count course.count);
  count = omega arith;
  short = λ short. short;
  loops = λ makes all. all;
  stay = refl;
}

pub each_taken_moved : (scope : Scope) (enter : Enter) (t : TokenAt) (states : List State) (course after : Course) → Told scope → Enters scope enter
    → IsTokenSound scope.style.names scope.style.bodies scope.style.texts t.token → All (WellMade scope.style) states
    → each_taken scope enter t states course ≡ Ok after → MovedFrom scope states course after
each_taken_moved scope enter t [] course after told enters sound made e = subst (MovedFrom scope [] course) (sym (ok_is course after e)) (from_none scope course)
each_taken_moved scope enter t (state ∷ states) course after told enters sound made e =
    let first = then_ok (taken scope enter t state course) (each_taken scope enter t states) after e in
    from_twice scope state states course first.0 after
    (taken_moved scope enter t state told enters (All-head (WellMade scope.style) state states made) sound course first.0 first.1)
    (each_taken_moved scope enter t states first.0 after told enters sound (All-tail (WellMade scope.style) state states made) first.2)

-- what loops that are made for the states of a token keep
record WhiledFrom (make : Make) (scope : Scope) (starts : List State) (before after : Making) : Type 0 where
  pub moved : MovedFrom scope starts before.course after.course
  pub written : KeepsMade make scope before after

-- loops that are made for the states of a token
whiles_moved : (make : Make) (scope : Scope) (place : Place) (states earlier later : List State) (making after : Making) → Told scope
    → MakesLoops scope.style make → All (WellMade scope.style) states → ((x : State) → IsAmong x later → IsAmong x states)
    → All (WellMade scope.style) later → HasMade scope.style making → whiles_taken make scope place states earlier later making ≡ Ok after
    → WhiledFrom make scope later making after
whiles_moved make scope place states earlier [] making after told makes all among well made e =
    subst (WhiledFrom make scope [] making) (sym (ok_is making after e)) (record { moved = from_none scope making.course; written = λ makes all. all })
whiles_moved make scope place states earlier (state ∷ later) making after told makes all among well made e =
    let rest = whiles_taken make scope place states (earlier ++ state ∷ []) later in
    let counted = then_ok (counts 1 place making.course)
    (λ course. then_do (while_taken make scope place states earlier state (record making { course = course })) rest) after e in
    let begun : Making = record making { course = counted.0 } in
    let taken = then_ok (while_taken make scope place states earlier state begun) rest after counted.2 in
    let one = while_moved make scope place states earlier state begun taken.0 told makes all (among state (inl refl))
    (All-head (WellMade scope.style) state later well) made taken.1 in
    let others = whiles_moved make scope place states (earlier ++ state ∷ []) later taken.0 after told makes all (λ x later. among x (inr later))
    (All-tail (WellMade scope.style) state later well) one.made taken.2 in
    record {
      moved = from_twice scope state later making.course taken.0.course after.course
          (counted_moved scope 1 0 state place making.course counted.0 taken.0.course counted.1
          (moved_within scope 64 65 state counted.0 taken.0.course (omega arith) one.moved)) others.moved;
      written = λ writes loops. others.written writes (one.written writes loops);
    }

-- how loops are made for a token is how they are made
pub making_is : (scope : Scope) (t : Token) (make : Make) → making_for scope t ≡ Some make → scope.make ≡ Some make
making_is scope t make e =
    elim (is_while_token scope.style t) as (λ (b : Bool). cond b scope.make None ≡ Some make → scope.make ≡ Some make) [
      | true ↦ λ is. is
      | false ↦ λ is. absurd (cc)
    ] e

pub taken_from_moved : (scope : Scope) (enter : Enter) (t : TokenAt) (states : List State) (course after : Course) → Told scope → Enters scope enter
    → IsTokenSound scope.style.names scope.style.bodies scope.style.texts t.token → All (WellMade scope.style) states
    → taken_from scope enter t states course ≡ Ok after → MovedFrom scope states course after
taken_from_moved scope enter t states course after told enters sound made e = by_make (making_for scope t.token) refl e
  where
    by_make : (found : Option Make) → making_for scope t.token ≡ found → taken_by found scope enter t states course ≡ Ok after
        → MovedFrom scope states course after
    by_make None is e = each_taken_moved scope enter t states course after told enters sound made e
    by_make (Some make) is e =
        let all = then_ok (whiles_taken make scope t.place states [] states (none_made course)) (λ making. Ok (all_made making)) after e in
        let makes = subst (λ (o : Option Make). IfSome o (MakesLoops scope.style)) (making_is scope t.token make is) told.makes in
        let moved = whiles_moved make scope t.place states [] states (none_made course) all.0 told makes made (λ x among. among) made
        (All-nil (IsLoopOf scope.style)) all.1 in
        let come = moved.moved in
        subst (MovedFrom scope states course) (sym (ok_is (all_made all.0) after all.2)) (record {
          more = come.more;
          given = come.given;
          come = come.come;
          count = come.count;
          short = come.short;
          loops = λ writes loops.
              all_written make scope all.0 (making_is scope t.token make is) moved.written writes (come.loops writes loops);
          stay = come.stay;
        })

-- the states at a walk's end come from those at its start
pub record Ended (scope : Scope) (starts : List State) (before after : Course) : Type 0 where
  pub come : All (Comes scope starts before.count after.count) after.given
  pub count : before.count ≤ after.count
  pub short : All HasFewUses before.hints → All HasFewUses after.hints
  pub loops : KeepsLoops scope before after
  pub stay : after.stay ≡ before.stay

pub walked_ends : (scope : Scope) (enter : Enter) (tokens : List TokenAt) (course after : Course) → Told scope → Enters scope enter
    → AreSound scope tokens → All (WellMade scope.style) course.given → walked scope enter tokens course ≡ Ok after → Ended scope course.given course after
walked_ends scope enter [] course after told enters sound made e =
    subst (Ended scope course.given course) (sym (ok_is course after e)) (record {
      come = come_self scope course.count course.given made;
      count = omega arith;
      short = λ short. short;
      loops = λ makes all. all;
      stay = refl;
    })
walked_ends scope enter (t ∷ tokens) course after told enters sound made e =
    let fresh = record course { given = [] } in
    let first = then_ok (taken_from scope enter t course.given fresh) (walked scope enter tokens) after e in
    let one = taken_from_moved scope enter t course.given fresh first.0 told enters sound.0 made first.1 in
    let come = All-same (Comes scope course.given course.count first.0.count) first.0.given one.more one.given one.come in
    let rest = walked_ends scope enter tokens first.0 after told enters sound.1 (come_made scope course.given course.count first.0.count first.0.given come) first.2 in
    let low = one.count in
    let high = rest.count in
    record {
      come = come_twice scope course.given first.0.given course.count first.0.count after.count after.given come rest.come;
      count = omega (arith, low, high);
      short = λ short. rest.short (one.short short);
      loops = λ makes all. rest.loops makes (one.loops makes all);
      stay = rest.stay ∙ one.stay;
    }

-- the tokens of a body of the style
pub body_sound : (scope : Scope) (body : BodyId) → IsSound scope.style → AreSound scope (tokens_of scope.style body)
body_sound scope body sound =
    by_option (slice_get scope.style.bodies body.0)
    (got (λ (b : Body). Each (λ at. IsTokenSound scope.style.names scope.style.bodies scope.style.texts at.token) b.tokens) scope.style.bodies body.0 sound.tokens)
  where
    by_option : (o : Option Body) → IfSome o (λ b. AreSound scope b.tokens) → AreSound scope (option_map_or (λ b. b.tokens) o [])
    by_option (Some b) h = h
    by_option None h = tt

-- a body that is walked gives states that follow
pub body_moved : (scope : Scope) (depth : ℕ) → Told scope → Enters scope (body_walked scope depth)
body_moved scope zero told place body state made course after e = absurd (cc)
body_moved scope (suc more) told place body state made course after e =
    let begun = record course { given = state ∷ [] } in
    let inner = then_ok (walked scope (body_walked scope more) (tokens_of scope.style body) begun) (λ inner. gives_all place inner.given (record inner { given = course.given })) after e in
    let ended = walked_ends scope (body_walked scope more) (tokens_of scope.style body) begun inner.0 told (body_moved scope more told) (body_sound scope body told.sound)
    (All-cons (WellMade scope.style) state [] made (All-nil (WellMade scope.style))) inner.1 in
    let is = gives_all_ok place inner.0.given (record inner.0 { given = course.given }) after inner.2 in
    subst (Moved scope 0 state course) (sym is) (record {
      more = inner.0.given;
      given = refl;
      follow = come_follow scope state (state ∷ []) course.count inner.0.count inner.0.given
          (All-cons (Follows scope state) state [] (follows_self scope state made) (All-nil (Follows scope state))) ended.come;
      few = come_few scope state course.count inner.0.count inner.0.given ended.come;
      count = ended.count;
      short = ended.short;
      loops = ended.loops;
      stay = ended.stay;
    })
