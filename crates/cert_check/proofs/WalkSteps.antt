-- What the steps of the walk's functions come to.
use Rattle.std.proofs.Common.{◌≡◌, ℕ, zero, suc, ◌+◌, ◌-◌, ◌<◌, ◌≤◌, Bool, false, cond, List, [], ◌∷◌, drop, length, get_or, reverse, Option, None, Some, Result, Ok, sym, ap, subst, ◌∙◌, add-one, arith, drop-cons, IfSome}
use Rattle.std.specs.List.{All}
use Rattle.std.proofs.lemmas.List.Elements.{All-cons, All-head, All-nil, All-tail, All-weaker}
use Rattle.bv_base.specs.Answers.{then_do}
use Rattle.bv_base.specs.declared.place.Place.{Place}
use Rattle.name_table.specs.Sound.{Each, IsSound, IsTokenSound}
use Rattle.name_table.specs.declared.builtin.Builtin.{Builtin}
use Rattle.name_table.specs.declared.names.Kind.{Kind}
use Rattle.name_table.specs.declared.names.Kind.TheVariants as kind
use Rattle.name_table.specs.declared.names.NameId.{NameId}
use Rattle.name_table.specs.declared.style.BodyId.{BodyId}
use Rattle.name_table.specs.declared.style.Style.{Style}
use Rattle.name_table.specs.declared.style.TokenAt.{TokenAt}
use Rattle.bst_meaning.specs.StyleParts.{tokens_of}
use Rattle.bst_meaning.specs.declared.value.Target.{Target}
use Rattle.bst_meaning.specs.declared.value.Target.TheVariants.{Named, Block}
use Rattle.sym_state.specs.State.{State}
use Rattle.sym_state.specs.Demands.{Three}
use Rattle.sym_state.specs.declared.symbol.Sym.{Sym}
use Rattle.cert_check.specs.declared.refusal.Refusal.{Refusal}
use Rattle.cert_check.specs.Certified.{IsCertified, MakesLoops}
use Rattle.cert_check.specs.Courses.{Course, Walk, gives_all}
use Rattle.cert_check.specs.Given.{Refused, Takes}
use Rattle.cert_check.specs.Room.{GivesRoom, HasRoom, IsCaseWithin, KeepsRoom}
use Rattle.cert_check.specs.Walks.{Enter, Onward, Scope, body_walked, cases_entered, chosen, chosen_in, each_taken, entering_nothing, enters, exact_target, function_entered, named, taken, taken_from, test_of, walked}
use Rattle.cert_check.proofs.Entering.{enters_nothing}
use Rattle.cert_check.proofs.Keeping.{told_by}
use Rattle.cert_check.proofs.OwnStacks.{by_own_stack, chosen_own, one_deeper}
use Rattle.cert_check.proofs.RoomLeft.{all_room, entered_room, moved_room, room_on, taken_from_room, taken_room}
use Rattle.cert_check.proofs.Walked.{AreSound, body_moved, body_sound, chosen_moved, name_moved}

-- what is wanted is the first step's way to another, or its refusal
pub then_refused : (first : Walk) (next : Course → Walk) (refusal : Refusal) → Refused first refusal → Refused (then_do first next) refusal
then_refused first next refusal refused differs = ap (λ (w : Walk). then_do w next) (refused differs)

pub then_goes : (first : Walk) (next : Course → Walk) (mid : Course) → first ≡ Ok mid → then_do first next ≡ next mid
then_goes first next mid e = ap (λ (w : Walk). then_do w next) e

pub wanted_same : {T : Type 0} (wanted other : Walk) (after : Course) (result : Result T Refusal) → wanted ≡ other → Takes other after result
    → Takes wanted after result
wanted_same {T} wanted other after result same takes = subst (λ (w : Walk). Takes w after result) (sym same) takes

pub refused_same : (wanted other : Walk) (refusal : Refusal) → wanted ≡ other → Refused other refusal → Refused wanted refusal
refused_same wanted other refusal same refused differs = same ∙ refused differs

-- the call of a built-in function that enters nothing
pub built_in_takes : {T : Type 0} (scope : Scope) (enter : Enter) (other : Onward) (found : Option Kind) (o : Builtin) (name : NameId) (place : Place) (state : State)
    (course after : Course) (result : Result T Refusal) → found ≡ Some (kind.Builtin o) → enters o ≡ false
    → Takes (entering_nothing scope o (test_of o) place state course) after result → Takes (named scope enter other found name place state course) after result
built_in_takes {T} scope enter other found o name place state course after result is nothing takes =
    wanted_same (named scope enter other found name place state course) (entering_nothing scope o (test_of o) place state course) after result
    (ap (λ (k : Option Kind). named scope enter other k name place state course) is ∙ enters_nothing scope enter other o place state course nothing) takes

-- a body
pub begun_room : (scope : Scope) (state : State) (course begun : Course) → HasRoom scope.style 0 course.count state
    → begun ≡ record course { given = state ∷ [] } → GivesRoom scope.style begun
begun_room scope state course begun room is =
    let P : State → Type 0 = HasRoom scope.style 0 course.count in
    subst (GivesRoom scope.style) (sym is) (All-cons P state [] room (All-nil P))

pub tokens_sound : (scope : Scope) (body : BodyId) (tokens : List TokenAt) → IsSound scope.style → tokens ≡ tokens_of scope.style body → AreSound scope tokens
tokens_sound scope body tokens sound is = subst (AreSound scope) (sym is) (body_sound scope body sound)

-- the walk of its tokens, where the course is the one before it with the state alone
abbrev pub in_body : Scope → ℕ → Place → List TokenAt → Course → List State → Walk
in_body scope less place tokens begun given =
    then_do (walked scope (body_walked scope less) tokens begun) (λ inner. gives_all place inner.given (record inner { given = given }))

body_is : (scope : Scope) (more : ℕ) (place : Place) (body : BodyId) (state : State) (course begun : Course) (tokens : List TokenAt) → 0 < more
    → begun ≡ record course { given = state ∷ [] } → tokens ≡ tokens_of scope.style body
    → body_walked scope more place body state course ≡ in_body scope (more - 1) place tokens begun course.given
body_is scope more place body state course begun tokens some is are =
    one_deeper scope more place body state course some
    ∙ ap (λ (b : Course). in_body scope (more - 1) place (tokens_of scope.style body) b course.given) (sym is)
    ∙ ap (λ (all : List TokenAt). in_body scope (more - 1) place all begun course.given) (sym are)

pub body_refused : (scope : Scope) (more : ℕ) (place : Place) (body : BodyId) (state : State) (course begun : Course) (tokens : List TokenAt) (refusal : Refusal)
    → 0 < more → begun ≡ record course { given = state ∷ [] } → tokens ≡ tokens_of scope.style body
    → Refused (walked scope (body_walked scope (more - 1)) tokens begun) refusal → Refused (body_walked scope more place body state course) refusal
body_refused scope more place body state course begun tokens refusal some is are refused =
    refused_same _ (in_body scope (more - 1) place tokens begun course.given) refusal (body_is scope more place body state course begun tokens some is are)
    (then_refused (walked scope (body_walked scope (more - 1)) tokens begun) (λ inner. gives_all place inner.given (record inner { given = course.given })) refusal refused)

pub body_takes : {T : Type 0} (scope : Scope) (more : ℕ) (place : Place) (body : BodyId) (state : State) (course begun inner after : Course) (tokens : List TokenAt)
    (given : List State) (result : Result T Refusal) → 0 < more → begun ≡ record course { given = state ∷ [] } → tokens ≡ tokens_of scope.style body
    → given ≡ course.given → walked scope (body_walked scope (more - 1)) tokens begun ≡ Ok inner
    → Takes (gives_all place inner.given (record inner { given = given })) after result → Takes (body_walked scope more place body state course) after result
body_takes {T} scope more place body state course begun inner after tokens given result some is are kept e takes =
    wanted_same _ (gives_all place inner.given (record inner { given = given })) after result
    (body_is scope more place body state course begun tokens some is are
    ∙ then_goes _ (λ inner. gives_all place inner.given (record inner { given = course.given })) inner e
    ∙ ap (λ (l : List State). gives_all place inner.given (record inner { given = l })) (sym kept))
    takes

-- states that a token is taken from
pub next_taken : (scope : Scope) (enter : Enter) (t : TokenAt) (states rest : List State) (state : State) (course mid : Course) (whole : Walk)
    → states ≡ state ∷ rest → each_taken scope enter t states course ≡ whole → taken scope enter t state course ≡ Ok mid
    → each_taken scope enter t rest mid ≡ whole
next_taken scope enter t states rest state course mid whole is left e =
    sym (then_goes (taken scope enter t state course) (each_taken scope enter t rest) mid e) ∙ sym (ap (λ (l : List State). each_taken scope enter t l course) is) ∙ left

pub rest_room : (scope : Scope) (depth : ℕ) (t : TokenAt) (states rest : List State) (state : State) (course mid : Course) → IsSound scope.style
    → IsCertified scope.style scope.cert → IfSome scope.make (MakesLoops scope.style) → IsTokenSound scope.style.names scope.style.bodies scope.style.texts t.token → states ≡ state ∷ rest
    → All (HasRoom scope.style 0 course.count) states → taken scope (body_walked scope depth) t state course ≡ Ok mid
    → All (HasRoom scope.style 0 mid.count) rest
rest_room scope depth t states rest state course mid sound cert makes token is room e =
    let P : State → Type 0 = HasRoom scope.style 0 course.count in
    let all = subst (All P) is room in
    let kept = taken_room scope depth t state course mid sound cert makes token (All-head P state rest all) e in
    all_room scope.style course.count mid.count rest kept.count (All-tail P state rest all)

-- tokens of a body
pub next_walked : (scope : Scope) (enter : Enter) (tokens : List TokenAt) (t : TokenAt) (rest : List TokenAt) (states : List State) (course fresh mid : Course)
    (whole : Walk) → tokens ≡ t ∷ rest → fresh ≡ record course { given = [] } → states ≡ course.given → walked scope enter tokens course ≡ whole
    → taken_from scope enter t states fresh ≡ Ok mid → walked scope enter rest mid ≡ whole
next_walked scope enter tokens t rest states course fresh mid whole is fresh_is given left e =
    let taken_is : taken_from scope enter t course.given (record course { given = [] }) ≡ Ok mid =
    sym (ap (λ (l : List State). taken_from scope enter t l (record course { given = [] })) given)
    ∙ sym (ap (λ (c : Course). taken_from scope enter t states c) fresh_is) ∙ e in
    sym (then_goes (taken_from scope enter t course.given (record course { given = [] })) (walked scope enter rest) mid taken_is)
    ∙ sym (ap (λ (l : List TokenAt). walked scope enter l course) is) ∙ left

pub walked_refused : (scope : Scope) (enter : Enter) (tokens : List TokenAt) (t : TokenAt) (rest : List TokenAt) (states : List State) (course fresh : Course)
    (whole : Walk) (refusal : Refusal) → tokens ≡ t ∷ rest → fresh ≡ record course { given = [] } → states ≡ course.given
    → walked scope enter tokens course ≡ whole → Refused (taken_from scope enter t states fresh) refusal → Refused whole refusal
walked_refused scope enter tokens t rest states course fresh whole refusal is fresh_is given left refused differs =
    let taken_is : taken_from scope enter t course.given (record course { given = [] }) ≡ taken_from scope enter t states fresh =
    sym (ap (λ (l : List State). taken_from scope enter t l (record course { given = [] })) given)
    ∙ sym (ap (λ (c : Course). taken_from scope enter t states c) fresh_is) in
    sym left ∙ ap (λ (l : List TokenAt). walked scope enter l course) is
    ∙ ap (λ (w : Walk). then_do w (walked scope enter rest)) (taken_is ∙ refused differs)

pub token_kept : (scope : Scope) (depth : ℕ) (t : TokenAt) (states : List State) (course fresh mid : Course) → IsSound scope.style
    → IsCertified scope.style scope.cert → IfSome scope.make (MakesLoops scope.style) → IsTokenSound scope.style.names scope.style.bodies scope.style.texts t.token → fresh ≡ record course { given = [] }
    → states ≡ course.given → GivesRoom scope.style course → taken_from scope (body_walked scope depth) t states fresh ≡ Ok mid → GivesRoom scope.style mid
token_kept scope depth t states course fresh mid sound cert makes token is are room e =
    let count : course.count ≡ fresh.count = sym (ap (λ (c : Course). c.count) is) in
    let all = subst (λ (n : ℕ). All (HasRoom scope.style 0 n) states) count (subst (All (HasRoom scope.style 0 course.count)) (sym are) room) in
    (taken_from_room scope depth t states fresh mid sound cert makes token all e).given
    (subst (GivesRoom scope.style) (sym is) (All-nil (HasRoom scope.style 0 course.count)))

-- the function of a case
pub function_room : (scope : Scope) (depth : ℕ) (place : Place) (target : Option Target) (state : State) (course after : Course) → IsSound scope.style
    → IsCertified scope.style scope.cert → IfSome scope.make (MakesLoops scope.style) → HasRoom scope.style 64 course.count state
    → (let enter = body_walked scope depth in function_entered scope enter (by_own_stack scope enter place) place target state course ≡ Ok after)
    → KeepsRoom scope.style course after
function_room scope depth place None state course after sound cert makes room e = absurd (cc)
function_room scope depth place (Some (Named name)) state course after sound cert makes room e =
    let told = told_by scope sound cert makes in
    let enters = body_moved scope depth told in
    let enter = body_walked scope depth in
    moved_room scope 0 state course after
    (name_moved scope enter (chosen_in scope enter place) place name state told enters room.made (chosen_moved scope enter place state told enters room.made) course after e)
    (room_on scope.style 64 0 course.count course.count state (omega arith) (omega arith) room)
function_room scope depth place (Some (Block body)) state course after sound cert makes room e =
    entered_room scope depth place (Block body) body state course after sound cert makes room e

pub next_entered : (scope : Scope) (enter : Enter) (place : Place) (three : Three) (cases rest : List (Bool × State)) (above : Bool) (state : State) (function : Sym)
    (target : Option Target) (course mid : Course) (whole : Walk) → cases ≡ (above, state) ∷ rest → function ≡ cond above three.middle three.top
    → target ≡ exact_target scope.style state function → cases_entered scope enter (by_own_stack scope enter place) place three cases course ≡ whole
    → function_entered scope enter (by_own_stack scope enter place) place target state course ≡ Ok mid
    → cases_entered scope enter (by_own_stack scope enter place) place three rest mid ≡ whole
next_entered scope enter place three cases rest above state function target course mid whole is function_is target_is left e =
    let call = by_own_stack scope enter place in
    let entered : function_entered scope enter call place (exact_target scope.style state (cond above three.middle three.top)) state course ≡ Ok mid =
    sym (ap (λ (o : Option Target). function_entered scope enter call place o state course) (target_is ∙ ap (exact_target scope.style state) function_is)) ∙ e in
    sym (then_goes (function_entered scope enter call place (exact_target scope.style state (cond above three.middle three.top)) state course)
    (cases_entered scope enter call place three rest) mid entered)
    ∙ sym (ap (λ (l : List (Bool × State)). cases_entered scope enter call place three l course) is) ∙ left

pub cases_later : (style : Style) (known low high : ℕ) (cases : List (Bool × State)) → low ≤ high → All (IsCaseWithin style known low) cases
    → All (IsCaseWithin style known high) cases
cases_later style known low high cases rises all =
    All-weaker (IsCaseWithin style known low) (IsCaseWithin style known high)
    (λ case within. record { room = room_on style 64 64 low high case.1 (omega arith) rises within.room; operands = within.operands }) cases all

pub rest_within : (scope : Scope) (depth known : ℕ) (place : Place) (cases rest : List (Bool × State)) (above : Bool) (state : State) (target : Option Target)
    (course mid : Course) → IsSound scope.style → IsCertified scope.style scope.cert → IfSome scope.make (MakesLoops scope.style) → cases ≡ (above, state) ∷ rest
    → All (IsCaseWithin scope.style known course.count) cases
    → (let enter = body_walked scope depth in function_entered scope enter (by_own_stack scope enter place) place target state course ≡ Ok mid)
    → All (IsCaseWithin scope.style known mid.count) rest
rest_within scope depth known place cases rest above state target course mid sound cert makes is within e =
    let P : (Bool × State) → Type 0 = IsCaseWithin scope.style known course.count in
    let all = subst (All P) is within in
    let kept = function_room scope depth place target state course mid sound cert makes (All-head P (above, state) rest all).room e in
    cases_later scope.style known course.count mid.count rest kept.count (All-tail P (above, state) rest all)

pub case_within : (style : Style) (known count : ℕ) (cases rest : List (Bool × State)) (case : Bool × State) → cases ≡ case ∷ rest
    → All (IsCaseWithin style known count) cases → IsCaseWithin style known count case
case_within style known count cases rest case is within =
    let P : (Bool × State) → Type 0 = IsCaseWithin style known count in
    All-head P case rest (subst (All P) is within)

-- `if$`
pub chosen_takes : {T : Type 0} (scope : Scope) (enter : Enter) (place : Place) (state : State) (three : Three) (cases : List (Bool × State)) (course mid after : Course)
    (result : Result T Refusal)
    → chosen scope enter (by_own_stack scope enter place) place (reverse state.stack) state course ≡ cases_entered scope enter (by_own_stack scope enter place) place three cases mid
    → Takes (cases_entered scope enter (by_own_stack scope enter place) place three cases mid) after result
    → Takes (chosen_in scope enter place state course) after result
chosen_takes {T} scope enter place state three cases course mid after result is takes =
    wanted_same _ (cases_entered scope enter (by_own_stack scope enter place) place three cases mid) after result (chosen_own scope enter place state course ∙ is) takes

pub chosen_refused : (scope : Scope) (enter : Enter) (place : Place) (state : State) (course : Course) (refusal : Refusal)
    → Refused (chosen scope enter (by_own_stack scope enter place) place (reverse state.stack) state course) refusal
    → Refused (chosen_in scope enter place state course) refusal
chosen_refused scope enter place state course refusal refused = refused_same _ _ refusal (chosen_own scope enter place state course) refused

-- the element at an index, and those behind it
pub item_at : {X : Type 0} (xs : List X) (k : ℕ) (d : X) → k < length xs → drop k xs ≡ get_or xs k d ∷ drop (k + 1) xs
item_at xs k d inside =
    drop-cons xs k d inside ∙ ap (λ (n : ℕ). get_or xs k d ∷ drop n xs) (sym (add-one k))

pub each_at : {X : Type 0} (P : X → Type 0) (xs : List X) (k : ℕ) (d : X) → Each P xs → k < length xs → P (get_or xs k d)
each_at P [] k d each inside = absurd (omega (arith, inside))
each_at P (x ∷ xs) zero d each inside = each.0
each_at P (x ∷ xs) (suc k) d each inside = each_at P xs k d each.1 (omega (arith, inside))

pub first_room : (style : Style) (count : ℕ) (states rest : List State) (state : State) → states ≡ state ∷ rest → All (HasRoom style 0 count) states
    → HasRoom style 0 count state
first_room style count states rest state is room = let P : State → Type 0 = HasRoom style 0 count in All-head P state rest (subst (All P) is room)
