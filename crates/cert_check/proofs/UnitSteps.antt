-- What the steps of a unit's check come to, and those of a call.
use Rattle.std.proofs.Common.{◌≡◌, ℕ, ◌≤◌, Bool, List, [], ◌∷◌, slice_get, Option, None, Some, IfOk, Result, Ok, sym, ap, subst, ◌∙◌, arith, IfSome}
use Rattle.std.specs.List.{All}
use Rattle.std.specs.Option.{option_map_or}
use Rattle.std.specs.Result.{MatchResult}
use Rattle.std.proofs.lemmas.List.Elements.{All-cons, All-head, All-nil, All-tail, All-weaker}
use Rattle.bv_base.specs.Answers.{then_do}
use Rattle.bv_base.specs.declared.place.Place.{Place}
use Rattle.bv_base.proofs.ThenLemmas.{ok_is}
use Rattle.name_table.specs.Sound.{IsSound}
use Rattle.name_table.specs.declared.names.NameId.{NameId}
use Rattle.name_table.specs.declared.style.BodyId.{BodyId}
use Rattle.name_table.specs.declared.style.Style.{Style}
use Rattle.bst_meaning.specs.declared.condition.Cond.{Cond}
use Rattle.bst_meaning.specs.StyleParts.{kind_of}
use Rattle.bst_meaning.specs.declared.value.Target.{Target}
use Rattle.bst_meaning.specs.declared.value.Target.TheVariants.{Named, Block}
use Rattle.cert_format.specs.declared.cert.Cert.{Cert}
use Rattle.cert_format.specs.declared.cert.Summary.{Summary}
use Rattle.sym_state.specs.State.{State}
use Rattle.sym_state.specs.Starting.{IsFit, IsNumbered, started, symbols_of}
use Rattle.sym_state.specs.WellMade.{HasBounds, WellMade}
use Rattle.sym_state.specs.declared.hint.Hint.{Hint}
use Rattle.sym_state.specs.declared.piece.Piece.{Piece}
use Rattle.straight_hints.specs.declared.finding.Finding.{Finding}
use Rattle.straight_hints.specs.declared.finding.Finding.TheVariants.{Straight}
use Rattle.cert_check.specs.declared.checker.Called.{Called}
use Rattle.cert_check.specs.declared.limits.TheConstants.{MOST_COUNT, MOST_DEPTH}
use Rattle.cert_check.specs.declared.refusal.Refusal.{Refusal}
use Rattle.cert_check.specs.Certified.{AreSound, CanWalk, IsCertified, IsSummaryOf, MakesLoops}
use Rattle.cert_check.specs.Courses.{Course, Walk, placed}
use Rattle.cert_check.specs.Given.{Finds, Leads, Refused}
use Rattle.cert_check.specs.Room.{GivesRoom, HasRoom, IsEnd, KeepsRoom}
use Rattle.cert_check.specs.Units.{all_end, beginning, body_of, call_found, call_made, call_walked, came_to, checked_at, everywhere, none_left, own_walked, place_of, searching, summary_checked, target_entered, target_from}
use Rattle.cert_check.specs.Walks.{Make, Over, Scope}
use Rattle.cert_check.proofs.RoomLeft.{body_room, named_room, room_on, started_room, target_room}
use Rattle.cert_check.proofs.WalkSteps.{then_goes}

-- what is wanted at the end of a unit
abbrev pub Checks : {T : Type 0} → Result (List Hint) Refusal → Result T Refusal → Type 0
Checks wanted result = MatchResult result (λ _. wanted ≡ Ok []) (Refused wanted)

abbrev pub at_end : Cond → Place → ℕ → List Piece → Course → Result (List Hint) Refusal
at_end admits place kept pieces course = then_do (placed place (all_end admits kept pieces course.given course.hints)) (none_left place)

-- the check of a summary from its parts
abbrev pub by_parts : Scope → Summary → Option BodyId → Place → State → ℕ → Result (List Hint) Refusal
by_parts scope summary body place state kept =
    then_do (own_walked scope place summary.body body state (beginning summary.hints)) (at_end scope.cert.cond place kept summary.posts)

-- the parts are those of the definition
pub record AreParts (scope : Scope) (summary : Summary) (body : Option BodyId) (place : Place) (state : State) (kept : ℕ) : Type 0 where
  pub writes : scope.writes ≡ Some summary.writes
  pub unmade : scope.make ≡ None
  pub body_is : body ≡ body_of scope.style summary.body
  pub place_is : place ≡ place_of scope.style body
  pub state_is : state ≡ started scope.style scope.cert.cond (summary.pre ∷ []) summary.whole summary.entry
  pub kept_is : kept ≡ symbols_of summary.pre

pub summary_parts : (scope : Scope) (summary : Summary) (first second : Style) (body : Option BodyId) (place : Place) (state : State) (kept : ℕ)
    → scope.writes ≡ Some summary.writes → scope.make ≡ None → first ≡ scope.style → second ≡ scope.style → body ≡ body_of first summary.body
    → place ≡ place_of second body → state ≡ started scope.style scope.cert.cond (summary.pre ∷ []) summary.whole summary.entry
    → kept ≡ symbols_of summary.pre → AreParts scope summary body place state kept
summary_parts scope summary first second body place state kept writes unmade same_first same_second body_is place_is state_is kept_is = record {
  writes = writes;
  unmade = unmade;
  body_is = body_is ∙ ap (λ (style : Style). body_of style summary.body) same_first;
  place_is = place_is ∙ ap (λ (style : Style). place_of style body) same_second;
  state_is = state_is;
  kept_is = kept_is;
}

parts_are : (scope : Scope) (summary : Summary) (body : Option BodyId) (place : Place) (state : State) (kept : ℕ) → AreParts scope summary body place state kept
    → summary_checked scope.style scope.cert summary ≡ by_parts scope summary body place state kept
parts_are scope summary body place state kept parts =
    let first : State = started scope.style scope.cert.cond (summary.pre ∷ []) summary.whole summary.entry in
    ap (λ (w : Option (List NameId)). let s : Scope = record { style = scope.style; cert = scope.cert; writes = w; make = None } in
    by_parts s summary (body_of scope.style summary.body) (place_of scope.style (body_of scope.style summary.body)) first (symbols_of summary.pre)) (sym parts.writes)
    ∙ ap (λ (m : Option Make). let s : Scope = record { style = scope.style; cert = scope.cert; writes = scope.writes; make = m } in
    by_parts s summary (body_of scope.style summary.body) (place_of scope.style (body_of scope.style summary.body)) first (symbols_of summary.pre)) (sym parts.unmade)
    ∙ ap (λ (b : Option BodyId). by_parts scope summary b (place_of scope.style b) first (symbols_of summary.pre)) (sym parts.body_is)
    ∙ ap (λ (p : Place). by_parts scope summary body p first (symbols_of summary.pre)) (sym parts.place_is)
    ∙ ap (λ (s : State). by_parts scope summary body place s (symbols_of summary.pre)) (sym parts.state_is)
    ∙ ap (λ (n : ℕ). by_parts scope summary body place state n) (sym parts.kept_is)

pub unit_refused : (scope : Scope) (summary : Summary) (body : Option BodyId) (place : Place) (state : State) (kept : ℕ) (course : Course) (refusal : Refusal)
    → AreParts scope summary body place state kept → course ≡ beginning summary.hints
    → Refused (own_walked scope place summary.body body state course) refusal → Refused (summary_checked scope.style scope.cert summary) refusal
unit_refused scope summary body place state kept course refusal parts is refused differs =
    parts_are scope summary body place state kept parts
    ∙ ap (λ (c : Course). then_do (own_walked scope place summary.body body state c) (at_end scope.cert.cond place kept summary.posts)) (sym is)
    ∙ ap (λ (w : Walk). then_do w (at_end scope.cert.cond place kept summary.posts)) (refused differs)

pub unit_checks : {T : Type 0} (scope : Scope) (summary : Summary) (body : Option BodyId) (place : Place) (state : State) (kept : ℕ) (course after : Course)
    (result : Result T Refusal) → AreParts scope summary body place state kept → course ≡ beginning summary.hints
    → own_walked scope place summary.body body state course ≡ Ok after → Checks (at_end scope.cert.cond place kept summary.posts after) result
    → Checks (summary_checked scope.style scope.cert summary) result
unit_checks {T} scope summary body place state kept course after result parts is e checks =
    subst (λ (r : Result (List Hint) Refusal). Checks r result)
    (sym (parts_are scope summary body place state kept parts
    ∙ ap (λ (c : Course). then_do (own_walked scope place summary.body body state c) (at_end scope.cert.cond place kept summary.posts)) (sym is)
    ∙ ap (λ (w : Walk). then_do w (at_end scope.cert.cond place kept summary.posts)) e))
    checks

-- the state that the pre starts
pub own_room : (scope : Scope) (summary : Summary) (state : State) (course : Course) → IsSound scope.style → IsCertified scope.style scope.cert → IfSome scope.make (MakesLoops scope.style)
    → IsSummaryOf scope.style summary → state ≡ started scope.style scope.cert.cond (summary.pre ∷ []) summary.whole summary.entry
    → course ≡ beginning summary.hints → HasRoom scope.style 65 course.count state
own_room scope summary state course sound cert makes is state_is course_is =
    let few = is.short.symbols in
    let room = started_room scope.style scope.cert.cond (summary.pre ∷ []) summary.whole summary.entry sound cert.fields
    (All-cons IsNumbered summary.pre [] is.numbered (All-nil IsNumbered)) (All-cons (IsFit scope.style) summary.pre [] is.fit (All-nil (IsFit scope.style)))
    (omega (arith, few)) in
    subst (HasRoom scope.style 65 course.count) (sym state_is)
    (subst (λ (n : ℕ). HasRoom scope.style 65 n (started scope.style scope.cert.cond (summary.pre ∷ []) summary.whole summary.entry))
    (sym (ap (λ (c : Course). c.count) course_is)) room)

-- states of a call, one after the other
pub next_target : (scope : Scope) (place : Place) (target : Target) (states rest : List State) (state : State) (course mid : Course) (whole : Walk)
    → states ≡ state ∷ rest → target_from scope place target states course ≡ whole → target_entered scope place target state course ≡ Ok mid
    → target_from scope place target rest mid ≡ whole
next_target scope place target states rest state course mid whole is left e =
    sym (then_goes (target_entered scope place target state course) (target_from scope place target rest) mid e)
    ∙ sym (ap (λ (l : List State). target_from scope place target l course) is) ∙ left

pub first_target : (style : Style) (count : ℕ) (states rest : List State) (state : State) → states ≡ state ∷ rest → All (HasRoom style 64 count) states
    → HasRoom style 64 count state
first_target style count states rest state is room = let P : State → Type 0 = HasRoom style 64 count in All-head P state rest (subst (All P) is room)

pub target_kept : (scope : Scope) (place : Place) (target : Target) (states rest : List State) (state : State) (course mid : Course) → IsSound scope.style
    → IsCertified scope.style scope.cert → IfSome scope.make (MakesLoops scope.style) → states ≡ state ∷ rest → All (HasRoom scope.style 64 course.count) states
    → target_entered scope place target state course ≡ Ok mid → KeepsRoom scope.style course mid
target_kept scope place target states rest state course mid sound cert makes is room e =
    target_room scope place target state course mid sound cert makes (first_target scope.style course.count states rest state is room) e

pub rest_targets : (scope : Scope) (states rest : List State) (state : State) (low high : ℕ) → states ≡ state ∷ rest → low ≤ high
    → All (HasRoom scope.style 64 low) states → All (HasRoom scope.style 64 high) rest
rest_targets scope states rest state low high is rises room =
    let P : State → Type 0 = HasRoom scope.style 64 low in
    All-weaker P (HasRoom scope.style 64 high) (λ inner there. room_on scope.style 64 64 low high inner (omega arith) rises there) rest
    (All-tail P state rest (subst (All P) is room))

-- the state that a call of `start` gives
pub started_is : {E : Type 0} (style other : Style) (admits known : Cond) (pieces : List Piece) (pre : Piece) (whole at_entry : Bool) (r : Result State E) (state : State)
    → r ≡ Ok state → IfOk r (λ s. s ≡ started other known pieces whole at_entry) → other ≡ style → known ≡ admits → pieces ≡ pre ∷ []
    → state ≡ started style admits (pre ∷ []) whole at_entry
started_is {E} style other admits known pieces pre whole at_entry r state e is same_style same_cond one =
    let here : state ≡ started other known pieces whole at_entry = subst (λ (r : Result State E). IfOk r (λ s. s ≡ started other known pieces whole at_entry)) e is in
    here ∙ ap (λ (s : Style). started s known pieces whole at_entry) same_style ∙ ap (λ (a : Cond). started style a pieces whole at_entry) same_cond
    ∙ ap (λ (l : List Piece). started style admits l whole at_entry) one

-- the states at a unit's end are within their bounds
bounds_of : (style : Style) (count : ℕ) (states : List State) → All (HasRoom style 0 count) states → All HasBounds states
bounds_of style count states room = All-weaker (HasRoom style 0 count) HasBounds (λ state there. there.made.bounds) states room

own_kept : (scope : Scope) (place : Place) (target : Target) (body : Option BodyId) (state : State) (course after : Course) → IsSound scope.style
    → IsCertified scope.style scope.cert → IfSome scope.make (MakesLoops scope.style) → HasRoom scope.style 65 course.count state → own_walked scope place target body state course ≡ Ok after
    → KeepsRoom scope.style course after
own_kept scope place target (Some body) state course after sound cert makes room e =
    body_room scope MOST_DEPTH place body state course after sound cert makes
    (room_on scope.style 65 0 course.count course.count state (omega arith) (omega arith) room) e
own_kept scope place (Named name) None state course after sound cert makes room e =
    named_room scope MOST_DEPTH (kind_of scope.style name) name place state course after sound cert makes room e
own_kept scope place (Block body) None state course after sound cert makes room e =
    subst (KeepsRoom scope.style course) (sym (ok_is course after e)) (record { count = omega arith; given = λ given. given })

pub own_ends : (scope : Scope) (place : Place) (target : Target) (body : Option BodyId) (state : State) (course after : Course) (hints : List Hint)
    → IsSound scope.style → IsCertified scope.style scope.cert → IfSome scope.make (MakesLoops scope.style) → HasRoom scope.style 65 course.count state → course ≡ beginning hints
    → own_walked scope place target body state course ≡ Ok after → All HasBounds after.given
own_ends scope place target body state course after hints sound cert makes room is e =
    bounds_of scope.style after.count after.given
    ((own_kept scope place target body state course after sound cert makes room e).given
    (subst (GivesRoom scope.style) (sym is) (All-nil (HasRoom scope.style 0 0))))

-- the unit of a number
pub unit_at_checks : {X T : Type 0} (check : Style → Cert → X → Result (List Hint) Refusal) (style : Style) (cert : Cert) (units : List X) (k : ℕ)
    (scope : Scope) (unit : X) (result : Result T Refusal) → Some unit ≡ slice_get units k → scope.style ≡ style → scope.cert ≡ cert
    → Checks (check scope.style scope.cert unit) result → Checks (option_map_or (check style cert) (slice_get units k) (Ok [])) result
unit_at_checks {X} {T} check style cert units k scope unit result found same_style same_cert checks =
    subst (λ (r : Result (List Hint) Refusal). Checks r result)
    (ap (λ (s : Style). check s scope.cert unit) same_style ∙ ap (λ (c : Cert). check style c unit) same_cert
    ∙ ap (λ (o : Option X). option_map_or (check style cert) o (Ok [])) found)
    checks

-- the summary of a number
pub number_checks : {T : Type 0} (style : Style) (cert : Cert) (k : ℕ) (scope : Scope) (summary : Summary) (result : Result T Refusal)
    → Some summary ≡ slice_get cert.summaries k → scope.style ≡ style → scope.cert ≡ cert → Checks (summary_checked scope.style scope.cert summary) result
    → Checks (checked_at style cert k) result
number_checks {T} style cert k = unit_at_checks summary_checked style cert cert.summaries k

pub none_checks : (style : Style) (cert : Cert) (k : ℕ) → None ≡ slice_get cert.summaries k → checked_at style cert k ≡ Ok []
none_checks style cert k found = ap (λ (o : Option Summary). option_map_or (summary_checked style cert) o (Ok [])) (sym found)

-- a call from its parts
call_is : (wanted : Scope) (states : List State) (target : Target) (place : Place) (begun : Course) (scope : Scope) (course : Course)
    → scope ≡ wanted → course ≡ begun → target_from wanted place target states begun ≡ target_from scope place target states course
call_is wanted states target place begun scope course scope_is course_is =
    sym (ap (λ (s : Scope). target_from s place target states begun) scope_is) ∙ sym (ap (λ (c : Course). target_from scope place target states c) course_is)

pub called : (style : Style) (cert : Cert) (states : List State) (target : Target) (place : Place) (hints : List Hint) (scope : Scope) (course after : Course)
    (given : List State) (left : List Hint) → scope ≡ everywhere style cert → course ≡ beginning hints → target_from scope place target states course ≡ Ok after
    → given ≡ after.given → left ≡ after.hints → Leads (call_walked style cert states target place hints) given left
called style cert states target place hints scope course after given left scope_is course_is e given_is left_is = record {
  course = after;
  is = call_is (everywhere style cert) states target place (beginning hints) scope course scope_is course_is ∙ e;
  given = sym given_is;
  left = sym left_is;
}

-- a call whose hints are found
pub called_finding : (finding : Finding) (style : Style) (cert : Cert) (states : List State) (target : Target) (place : Place) (scope : Scope)
    (course after : Course) (given : List State) (found : List Hint) → scope ≡ everywhere style cert → course ≡ searching finding
    → target_from scope place target states course ≡ Ok after → given ≡ after.given → found ≡ after.found → Finds (call_found finding style cert states target place) given found
called_finding finding style cert states target place scope course after given found scope_is course_is e given_is found_is = record {
  course = after;
  is = call_is (everywhere style cert) states target place (searching finding) scope course scope_is course_is ∙ e;
  given = sym given_is;
  found = sym found_is;
}

-- a walk of a checker that makes its loops, and where it begins
abbrev pub scope_making : Option Make → Style → Cert → Scope
scope_making make style cert = record { style = style; cert = cert; writes = None; make = make }

abbrev pub begun_behind : ℕ → Course
begun_behind stay = record (searching Straight) { stay = stay }

-- what it comes to is what the walk of the checker's scope does
pub making_taken : (make : Option Make) (style : Style) (cert : Cert) (stay : ℕ) (states : List State) (target : Target) (place : Place) (scope : Scope)
    (course after : Course) → scope ≡ scope_making make style cert → course ≡ begun_behind stay → target_from scope place target states course ≡ Ok after
    → target_from (scope_making make style cert) place target states (begun_behind stay) ≡ Ok after
making_taken make style cert stay states target place scope course after scope_is course_is e =
    call_is (scope_making make style cert) states target place (begun_behind stay) scope course scope_is course_is ∙ e

-- a call whose hints are found and whose loops are made
pub called_making : (make : Option Make) (style : Style) (cert : Cert) (stay : ℕ) (states : List State) (target : Target) (place : Place) (scope : Scope)
    (course after : Course) (called : Called) → scope ≡ scope_making make style cert → course ≡ begun_behind stay
    → target_from scope place target states course ≡ Ok after → called ≡ came_to after
    → call_made make style cert stay states target place ≡ Ok called
called_making make style cert stay states target place scope course after called scope_is course_is e called_is =
    ap (λ (w : Walk). then_do w (λ course. Ok (came_to course)))
    (making_taken make style cert stay states target place scope course after scope_is course_is e)
    ∙ ap (λ (c : Called). let found : Result Called Refusal = Ok c in found) (sym called_is)

pub making_refused : (make : Option Make) (style : Style) (cert : Cert) (stay : ℕ) (states : List State) (target : Target) (place : Place) (scope : Scope)
    (course : Course) (refusal : Refusal) → scope ≡ scope_making make style cert → course ≡ begun_behind stay
    → Refused (target_from scope place target states course) refusal → Refused (call_made make style cert stay states target place) refusal
making_refused make style cert stay states target place scope course refusal scope_is course_is refused differs =
    ap (λ (w : Walk). then_do w (λ course. Ok (came_to course)))
    (call_is (scope_making make style cert) states target place (begun_behind stay) scope course scope_is course_is ∙ refused differs)

-- it may be walked where the loops that are made are loops of the checker's style
pub making_walks : (make : Option Make) (style own : Style) (cert : Cert) (over : Over) → over ≡ record { style = style; cert = cert; writes = None }
    → AreSound style cert → own ≡ style → IfSome make (MakesLoops own) → CanWalk over own make
making_walks make style own cert over is sound same makes =
    subst (λ (o : Over). CanWalk o own make) (sym is) (record {
      sound = sound.sound;
      certified = sound.certified;
      same = same;
      makes = subst (λ (s : Style). IfSome make (MakesLoops s)) same makes;
    })

-- the states at its end
pub making_ends : (style own : Style) (stay : ℕ) (begun after : Course) (called : Called) → own ≡ style → begun ≡ begun_behind stay
    → (GivesRoom own begun → GivesRoom own after) → after.count ≤ MOST_COUNT → called ≡ came_to after → All (IsEnd style) called.given
making_ends style own stay begun after called same is keeps most came =
    let none : begun.given ≡ [] = ap (λ (c : Course). c.given) is in
    let given = keeps (subst (λ (l : List State). All (HasRoom own 0 begun.count) l) (sym none) (All-nil (HasRoom own 0 begun.count))) in
    subst (λ (l : List State). All (IsEnd style) l) (sym (ap (λ (c : Called). c.given) came))
    (subst (λ (s : Style). All (IsEnd s) after.given) same
    (All-weaker (HasRoom own 0 after.count) (IsEnd own) (λ state room. let few = room.few in record { made = room.made; few = omega (arith, few, most) })
    after.given given))

-- the states that are called are well made
pub called_made : (style : Style) (states : List State) → All (HasRoom style 64 0) states → All (WellMade style) states
called_made style states room = All-weaker (HasRoom style 64 0) (WellMade style) (λ state there. there.made) states room

-- what is told of how loops are made holds of the checker's style
pub told_of : (P : Style → Make → Type 0) (make : Option Make) (style own : Style) → own ≡ style → IfSome make (P own) → IfSome make (P style)
told_of P make style own same told = subst (λ (s : Style). IfSome make (P s)) same told
