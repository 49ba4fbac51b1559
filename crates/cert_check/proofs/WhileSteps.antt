-- What the steps of `while$` come to where loops are made.
use Rattle.std.proofs.Common.{◌≡◌, ℕ, zero, suc, ◌+◌, ◌≤◌, ◌<◌, Bool, true, false, ◌&&◌, cond, List, [], ◌∷◌, ◌++◌, append_assoc, drop, take, get_or, length, map, slice_get, Option, None, Some, IfOk, IfSome, MatchResult, Result, Ok, Err, OnOk, is_some, nat_lt, refl, sym, ap, ◌∙◌, subst, add-one, arith, inl, inr}
use Rattle.std.specs.List.{All, cons_option, list_all}
use Rattle.std.specs.Option.{option_and_then, option_map, option_map_or}
use Rattle.std.specs.Result.{result_ok}
use Rattle.std.proofs.lemmas.Bool.Decides.{nat_tests}
use Rattle.std.proofs.lemmas.List.{length-append}
use Rattle.std.proofs.lemmas.Option.{slice_get-get_or}
use Rattle.std.proofs.lemmas.List.Elements.{All-append, All-cons, All-drop, All-head, All-nil, All-weaker}
use Rattle.std.proofs.lemmas.Result.{MatchResult-at_err, MatchResult-at_ok}
use Rattle.bv_base.specs.Answers.{Leaves, then_do}
use Rattle.bv_base.specs.declared.memory.NoMemory.{NoMemory as Wanting}
use Rattle.bv_base.specs.declared.place.Place.{Place}
use Rattle.bv_base.proofs.ThenLemmas.{ok_is, then_ok, where_ok}
use Rattle.name_table.specs.declared.style.Style.{Style}
use Rattle.name_table.specs.declared.style.TokenAt.{TokenAt}
use Rattle.bst_meaning.specs.declared.condition.Cond.{Cond}
use Rattle.bst_meaning.specs.declared.value.Target.{Target}
use Rattle.cert_format.specs.declared.cert.Loop.{Loop}
use Rattle.sym_state.specs.State.{State}
use Rattle.sym_state.specs.Demands.{Two, two_of}
use Rattle.sym_state.specs.Showing.{piece_by}
use Rattle.sym_state.specs.WellMade.{WellMade}
use Rattle.sym_state.specs.declared.demand.EffectFault.{EffectFault}
use Rattle.sym_state.specs.declared.demand.EffectFault.TheVariants as fault
use Rattle.sym_state.specs.declared.hint.Hint.{Hint}
use Rattle.sym_state.specs.declared.hint.Hint.TheVariants as hint
use Rattle.sym_state.specs.declared.piece.Piece.{Piece}
use Rattle.sym_state.specs.declared.symbol.Kinds.TheVariants.{Func}
use Rattle.sym_state.specs.declared.symbol.Sym.{Sym}
use Rattle.refinements.specs.Covered.{IsAmong}
use Rattle.straight_hints.specs.Found.{piece_hints}
use Rattle.straight_hints.specs.declared.finding.Finding.TheVariants.{Straight}
use Rattle.cert_check.specs.Certified.{AreMade, CanWalk, IsLoopOf, MakesLoops}
use Rattle.cert_check.specs.Courses.{Course, Walk, counts, first_number, gives_all, placed, refuses}
use Rattle.cert_check.specs.Room.{HasRoom}
use Rattle.cert_check.specs.Uses.{Passage, around, comes_by, fits, left_state}
use Rattle.cert_check.specs.Walks.{Come, Enter, Make, Making, Numbered, Over, Scope, While, all_made, comes_by_case, comes_to, coming_hints, each_taken, entering_with, exact_target, is_target, leaves, loop_made, made_by, made_used, making_for, may_write, numbered, numbered_at, repeated, rest_of, scope_of, taken_by, taken_from, while_alone, while_by, while_by_make, while_in, while_made, while_of, while_taken, whiles_from, whiles_taken}
use Rattle.cert_check.specs.declared.limits.TheConstants.{MOST_LOOPS}
use Rattle.cert_check.specs.declared.refusal.Reason.TheVariants.{NoMemory as WantOfMemory, NotEntailed}
use Rattle.cert_check.specs.declared.refusal.Refusal.{Refusal}
use Rattle.cert_check.proofs.Inverted.{counts_ok, gives_all_ok, placed_ok}
use Rattle.cert_check.proofs.Keeping.{Told, element, told_by}
use Rattle.cert_check.proofs.Makings.{entering_all, some_enter, while_moved}
use Rattle.cert_check.proofs.Walked.{making_is}
use Rattle.cert_check.proofs.Placing.{placed_leaves}
use Rattle.cert_check.proofs.RoomLeft.{all_room}
use Rattle.cert_check.proofs.WalkSteps.{item_at}
use Rattle.cert_check.specs.Given.{GoesOn, Refused, Takes}

-- a rule that comes to what another one does
pub goes_same : {A T : Type 0} (wanted other : Result A Refusal) (next : T → Result A Refusal) (result : Result T Refusal) → wanted ≡ other
    → GoesOn other next result → GoesOn wanted next result
goes_same {A} {T} wanted other next result same goes = subst (λ (w : Result A Refusal). GoesOn w next result) (sym same) goes

pub takes_same : {A T : Type 0} (wanted other : Result A Refusal) (after : A) (result : Result T Refusal) → wanted ≡ other → Takes other after result
    → Takes wanted after result
takes_same {A} {T} wanted other after result same takes = subst (λ (w : Result A Refusal). Takes w after result) (sym same) takes

-- a call that refuses what the rule does
pub refuses_so : {A T : Type 0} (wanted : Result A Refusal) (next : T → Result A Refusal) (refusal : Refusal) (result : Result T Refusal) → result ≡ Err refusal
    → wanted ≡ Err refusal → GoesOn wanted next result
refuses_so {A} {T} wanted next refusal result is same = subst (GoesOn wanted next) (sym is) (λ differs. same)

-- a first step that is refused is the whole's refusal
pub first_refused : {A B : Type 0} (first : Result A Refusal) (next : A → Result B Refusal) (refusal : Refusal) → Refused first refusal
    → Refused (then_do first next) refusal
first_refused {A} {B} first next refusal refused differs = ap (λ (w : Result A Refusal). then_do w next) (refused differs)

first_goes : {A B : Type 0} (first : Result A Refusal) (next : A → Result B Refusal) (mid : A) → first ≡ Ok mid → then_do first next ≡ next mid
first_goes {A} {B} first next mid e = ap (λ (w : Result A Refusal). then_do w next) e

-- what follows a step that takes is made of what it gives
mapped_takes : {A B T : Type 0} (first : Result A Refusal) (made : A → B) (after : A) (result : Result T Refusal) → Takes first after result
    → Takes (then_do first (λ a. Ok (made a))) (made after) result
mapped_takes {A} {B} {T} first made after (Ok x) takes = first_goes first (λ a. Ok (made a)) after takes
mapped_takes {A} {B} {T} first made after (Err refusal) refused = first_refused first (λ a. Ok (made a)) refusal refused

-- the loops that are made are loops of the style
pub made_loops : (style : Style) (make : Option Make) → IfSome make (MakesLoops style) → MakesLoops style (made_by make)
made_loops style None makes = λ test body states some made. tt
made_loops style (Some make) makes = makes

-- loops are made for a token, or none is
pub each_takes : {T : Type 0} (scope : Scope) (enter : Enter) (t : TokenAt) (states : List State) (course after : Course) (result : Result T Refusal)
    → is_some (making_for scope t.token) ≡ false → Takes (each_taken scope enter t states course) after result
    → Takes (taken_from scope enter t states course) after result
each_takes {T} scope enter t states course after result none takes = by_make (making_for scope t.token) none
  where
    by_make : (found : Option Make) → is_some found ≡ false → Takes (taken_by found scope enter t states course) after result
    by_make None none = takes
    by_make (Some make) none = absurd (cc)

pub whiles_take : {T : Type 0} (scope : Scope) (enter : Enter) (t : TokenAt) (states : List State) (course after : Course) (result : Result T Refusal)
    → is_some (making_for scope t.token) ≡ true → Takes (whiles_from (made_by scope.make) scope t.place states course) after result
    → Takes (taken_from scope enter t states course) after result
whiles_take {T} scope enter t states course after result some takes = by_make (making_for scope t.token) refl some
  where
    by_make : (found : Option Make) → making_for scope t.token ≡ found → is_some found ≡ true → Takes (taken_by found scope enter t states course) after result
    by_make None is some = absurd (cc)
    by_make (Some make) is some =
        subst (λ (o : Option Make). Takes (whiles_from (made_by o) scope t.place states course) after result) (making_is scope t.token make is) takes

-- `while$` in a state
pub read_takes : {T : Type 0} (make : Option Make) (scope : Scope) (place : Place) (state : State) (course after : Course) (result : Result T Refusal)
    → is_some make ≡ false → Takes (repeated scope place state course) after result → Takes (while_by_make make scope place state course) after result
read_takes {T} None scope place state course after result none takes = takes
read_takes {T} (Some make) scope place state course after result none takes = absurd (cc)

pub alone_takes : {T : Type 0} (make : Option Make) (scope : Scope) (place : Place) (state : State) (course after : Course) (result : Result T Refusal)
    → is_some make ≡ true → Takes (while_alone (made_by make) scope place state course) after result
    → Takes (while_by_make make scope place state course) after result
alone_takes {T} None scope place state course after result some takes = absurd (cc)
alone_takes {T} (Some make) scope place state course after result some takes = takes

-- a state holds two functions
pub held_rest : (scope : Scope) (one : While) (state rest : State) (lower upper : Sym) (test body : Option Target) (held : Bool)
    → two_of Func Func state ≡ Ok (record { lower = lower; upper = upper; rest = rest })
    → test ≡ exact_target scope.style state lower → body ≡ exact_target scope.style state upper
    → ((rest : State) → option_and_then (rest_of one) (while_by test body rest) ≡ cond held (Some rest) None)
    → option_and_then (rest_of one) (while_in scope state) ≡ cond held (Some rest) None
held_rest scope one state rest lower upper test body held e test_is body_is same =
    ap (λ (r : Result Two EffectFault). option_and_then (rest_of one) (option_and_then (while_of scope state) (result_ok r))) e
    ∙ ap (λ (o : Option Target). option_and_then (rest_of one) (while_by o (exact_target scope.style state upper) rest)) (sym test_is)
    ∙ ap (λ (o : Option Target). option_and_then (rest_of one) (while_by test o rest)) (sym body_is)
    ∙ same rest

pub held_none : (scope : Scope) (one : While) (state : State) (fault : EffectFault) → two_of Func Func state ≡ Err fault
    → option_and_then (rest_of one) (while_in scope state) ≡ None
held_none scope one state fault e =
    ap (λ (r : Result Two EffectFault). option_and_then (rest_of one) (option_and_then (while_of scope state) (result_ok r))) e

-- so it enters with them, or doesn't
one_enters : (scope : Scope) (one : While) (states rest : List State) (state left : State) (held : Bool) → states ≡ state ∷ rest → held ≡ true
    → option_and_then (rest_of one) (while_in scope state) ≡ cond held (Some left) None → entering_with scope one states ≡ left ∷ entering_with scope one rest
one_enters scope one states rest state left held is holds e =
    ap (entering_with scope one) is
    ∙ ap (λ (o : Option State). cons_option o (entering_with scope one rest)) (e ∙ ap (λ (b : Bool). cond b (Some left) None) holds)

none_enters : (scope : Scope) (one : While) (states rest : List State) (state left : State) (held : Bool) → states ≡ state ∷ rest → held ≡ false
    → option_and_then (rest_of one) (while_in scope state) ≡ cond held (Some left) None → entering_with scope one states ≡ entering_with scope one rest
none_enters scope one states rest state left held is lacks e =
    ap (entering_with scope one) is
    ∙ ap (λ (o : Option State). cons_option o (entering_with scope one rest)) (e ∙ ap (λ (b : Bool). cond b (Some left) None) lacks)

-- a state is counted, or passed over
abbrev pub IsCounted : Bool → ℕ → ℕ → Type 0
IsCounted true count now = now ≡ count + 1
IsCounted false count now = now ≡ count

-- the states that are left, where the first is counted or passed over
pub counts_next : (scope : Scope) (one : While) (states rest : List State) (state left : State) (held : Bool) (count now all : ℕ) → states ≡ state ∷ rest
    → option_and_then (rest_of one) (while_in scope state) ≡ cond held (Some left) None → IsCounted held count now
    → count + length (entering_with scope one states) ≡ all → now + length (entering_with scope one rest) ≡ all
counts_next scope one states rest state left true count now all is e more before =
    let longer : length (entering_with scope one states) ≡ length (entering_with scope one rest) + 1 =
    ap length (one_enters scope one states rest state left true is refl e) ∙ sym (add-one (length (entering_with scope one rest))) in
    omega (arith, longer, more, before)
counts_next scope one states rest state left false count now all is e same before =
    ap (λ (n : ℕ). n + length (entering_with scope one rest)) same
    ∙ sym (ap (λ (l : List State). count + length l) (none_enters scope one states rest state left false is refl e)) ∙ before

pub few_counted : (held : Bool) (count now most : ℕ) → IsCounted held count now → count ≤ most → now ≤ most + 1
few_counted true count now most more few = omega (arith, more, few)
few_counted false count now most same few = omega (arith, same, few)

pub enters_one : (scope : Scope) (one : While) (states rest before now all : List State) (state left : State) (held : Bool) → states ≡ state ∷ rest → held ≡ true
    → option_and_then (rest_of one) (while_in scope state) ≡ cond held (Some left) None → now ≡ before ++ left ∷ []
    → before ++ entering_with scope one states ≡ all → now ++ entering_with scope one rest ≡ all
enters_one scope one states rest before now all state left held is holds e more left_over =
    ap (λ (l : List State). l ++ entering_with scope one rest) more
    ∙ append_assoc before (left ∷ []) (entering_with scope one rest)
    ∙ ap (λ (l : List State). before ++ l) (sym (one_enters scope one states rest state left held is holds e))
    ∙ left_over

pub enters_none : (scope : Scope) (one : While) (states rest before now all : List State) (state left : State) (held : Bool) → states ≡ state ∷ rest → held ≡ false
    → option_and_then (rest_of one) (while_in scope state) ≡ cond held (Some left) None → now ≡ before
    → before ++ entering_with scope one states ≡ all → now ++ entering_with scope one rest ≡ all
enters_none scope one states rest before now all state left held is lacks e same left_over =
    ap (λ (l : List State). l ++ entering_with scope one rest) same
    ∙ sym (ap (λ (l : List State). before ++ l) (none_enters scope one states rest state left held is lacks e)) ∙ left_over

-- the element at an index stands before those behind it
pub next_at : {X : Type 0} (xs : List X) (k : ℕ) (x : X) → k < length xs → x ≡ get_or xs k x → drop k xs ≡ x ∷ drop (k + 1) xs
next_at {X} xs k x inside is = item_at xs k x inside ∙ ap (λ (y : X). y ∷ drop (k + 1) xs) (sym is)

pub got_at : {X : Type 0} (xs : List X) (k : ℕ) (x : X) → k < length xs → x ≡ get_or xs k x → slice_get xs k ≡ Some x
got_at {X} xs k x inside is = slice_get-get_or xs k x inside ∙ ap (λ (y : X). let found : Option X = Some y in found) (sym is)

-- a loop with its number, where it stands at a place among those that are numbered from a number
abbrev numbered_so : ℕ → Loop → Option Numbered
numbered_so number one = Some (record { number = number; one = one })

abbrev placed_so : ℕ → ℕ → Loop → Numbered
placed_so number k = λ one. record { number = number + k; one = one }

-- the loop of two functions among those that were made for the token
pub is_here : (one : While) (number k : ℕ) (made loops rest : List Loop) (found : Loop) (all : Option Numbered) → loops ≡ found ∷ rest
    → slice_get made k ≡ Some found → (is_target found.test one.test && is_target found.body one.body) ≡ true
    → numbered one (number + k) loops ≡ all → all ≡ numbered_at number k made
is_here one number k made loops rest found all is there same left =
    sym left
    ∙ ap (numbered one (number + k)) is
    ∙ ap (λ (b : Bool). cond b (numbered_so (number + k) found) (numbered one (suc (number + k)) rest)) same
    ∙ sym (ap (option_map (placed_so number k)) there)

-- there is an element at each place
pub element_at : {X : Type 0} (xs : List X) (k : ℕ) → k < length xs → (x : X) × (slice_get xs k ≡ Some x)
element_at [] k inside = absurd (omega (arith, inside))
element_at (x ∷ xs) zero inside = (x, refl)
element_at (x ∷ xs) (suc k) inside = element_at xs k (omega (arith, inside))

-- a loop that is there is found again at its place
pub known_at : (place : Place) (found : Option Numbered) (number k : ℕ) (new : Option Loop) (made : List Loop) (course : Course)
    → found ≡ numbered_at number k made → k < length made
    → loop_made place found new (record { made = made; course = course })
    ≡ loop_made place (numbered_at number k made) None (record { made = made; course = course })
known_at place found number k new made course is inside =
    let m : Making = record { made = made; course = course } in
    let there = element_at made k inside in
    let at : numbered_at number k made ≡ numbered_so (number + k) there.0 = ap (option_map (placed_so number k)) there.1 in
    ap (λ (o : Option Numbered). loop_made place o new m) (is ∙ at) ∙ sym (ap (λ (o : Option Numbered). loop_made place o None m) at)

-- a new one comes behind the others
pub put_made : (style : Style) (one : Loop) (made new : List Loop) (course : Course) → new ≡ made ++ one ∷ [] → first_number course + length made < MOST_LOOPS
    → AreMade style (record { made = made; course = course }) → IsLoopOf style one → AreMade style (record { made = new; course = course })
put_made style one made new course is few all fresh =
    let longer : length (made ++ one ∷ []) ≡ length made + 1 = length-append made (one ∷ []) in
    subst (λ (l : List Loop). AreMade style (record { made = l; course = course })) (sym is) (record {
      made = All-append (IsLoopOf style) made (one ∷ []) all.made (All-cons (IsLoopOf style) one [] fresh (All-nil (IsLoopOf style)));
      few = omega (arith, longer, few);
    })

-- a loop that is known is used
pub known_takes : {T : Type 0} (make : Make) (scope : Scope) (place : Place) (states earlier : List State) (one : While) (before made : List Loop) (found : Loop)
    (k number case : ℕ) (course after : Course) (result : Result T Refusal)
    → loop_made place (numbered one (first_number course) before) (make one.test one.body (entering_with scope one states)) (record { made = before; course = course })
    ≡ loop_made place (numbered_at (first_number course) k made) None (record { made = made; course = course })
    → slice_get made k ≡ Some found → number ≡ first_number course + k → case ≡ length (entering_with scope one earlier)
    → Takes (made_used scope place (record { number = number; one = found }) case one.rest course) after result
    → Takes (while_made make scope place states earlier (Some one) (record { made = before; course = course })) (record { made = made; course = after }) result
known_takes {T} make scope place states earlier one before made found k number case course after result same there is counted takes =
    let m : Making = record { made = made; course = course } in
    let at_it : Numbered = record { number = number; one = found } in
    let entered = length (entering_with scope one earlier) in
    let with_course : Course → Making = λ course. record m { course = course } in
    let next : Numbered × Making → Result Making Refusal = λ known.
    then_do (made_used scope place known.0 entered one.rest known.1.course) (λ course. Ok (record known.1 { course = course })) in
    let at : numbered_at (first_number course) k made ≡ Some at_it =
    ap (option_map (placed_so (first_number course) k)) there ∙ ap (λ (n : ℕ). numbered_so n found) (sym is) in
    takes_same _ (then_do (made_used scope place at_it case one.rest course) (λ course. Ok (with_course course))) (with_course after) result
    (first_goes _ next (at_it, m) (same ∙ ap (λ (o : Option Numbered). loop_made place o None m) at)
    ∙ ap (λ (n : ℕ). then_do (made_used scope place at_it n one.rest course) (λ course. Ok (with_course course))) (sym counted))
    (mapped_takes (made_used scope place at_it case one.rest course) with_course after result takes)

-- a state that is walked is one of those that enter
pub this_enters : (scope : Scope) (place : Place) (states : List State) (state rest : State) (lower upper : Sym) (test body : Target)
    → placed place (two_of Func Func state) ≡ Ok (record { lower = lower; upper = upper; rest = rest })
    → Some test ≡ exact_target scope.style state lower → Some body ≡ exact_target scope.style state upper → IsAmong state states
    → 1 ≤ length (entering_with scope (record { test = test; body = body; rest = rest }) states)
this_enters scope place states state rest lower upper test body e test_is body_is among =
    let two = placed_ok place (two_of Func Func state) (record { lower = lower; upper = upper; rest = rest }) e in
    some_enter scope (record { test = test; body = body; rest = rest }) state states
    (ap (λ (r : Result Two EffectFault). option_and_then (while_of scope state) (result_ok r)) two
    ∙ ap (λ (o : Option Target). while_by o (exact_target scope.style state upper) rest) (sym test_is)
    ∙ ap (λ (o : Option Target). while_by (Some test) o rest) (sym body_is)) among

-- its two functions are looked up
pub known_while : {T : Type 0} (make : Make) (scope : Scope) (place : Place) (states earlier : List State) (state rest : State) (lower upper : Sym)
    (test body : Target) (making after : Making) (result : Result T Refusal)
    → placed place (two_of Func Func state) ≡ Ok (record { lower = lower; upper = upper; rest = rest })
    → Some test ≡ exact_target scope.style state lower → Some body ≡ exact_target scope.style state upper
    → Takes (while_made make scope place states earlier (Some (record { test = test; body = body; rest = rest })) making) after result
    → Takes (while_taken make scope place states earlier state making) after result
known_while {T} make scope place states earlier state rest lower upper test body making after result e test_is body_is takes =
    let two : Two = record { lower = lower; upper = upper; rest = rest } in
    let next : Two → Result Making Refusal = λ two. while_made make scope place states earlier (while_of scope state two) making in
    let one : While = record { test = test; body = body; rest = rest } in
    takes_same _ (while_made make scope place states earlier (Some one) making) after result
    (first_goes (placed place (two_of Func Func state)) next two e
    ∙ ap (λ (o : Option Target). while_made make scope place states earlier (while_by o (exact_target scope.style state upper) rest) making) (sym test_is)
    ∙ ap (λ (o : Option Target). while_made make scope place states earlier (while_by (Some test) o rest) making) (sym body_is)) takes

-- what a use of a loop leaves of the loops that were made
leaves_loops : (scope : Scope) (place : Place) (unit : Passage) (pre : Piece) (posts : List Piece) (kept : ℕ) (state : State) (course after : Course)
    → leaves scope place unit pre posts kept state course ≡ Ok after → first_number after ≡ first_number course
leaves_loops scope place unit pre posts kept state course after e =
    let states = map (left_state scope.style scope.cert.cond unit pre kept state) posts in
    let inside = where_ok (list_all (may_write scope.writes) unit.writes) _ _ after e in
    let counted = then_ok (counts (length unit.writes) place course) (gives_all place states) after inside.1 in
    ap first_number (gives_all_ok place states counted.0 after counted.2) ∙ ap first_number (counts_ok (length unit.writes) place course counted.0 counted.1)

used_loops : (scope : Scope) (place : Place) (found : Numbered) (k : ℕ) (state : State) (course after : Course)
    → made_used scope place found k state course ≡ Ok after → first_number after ≡ first_number course
used_loops scope place found k state course after e =
    let hints = coming_hints scope.cert.cond state k found in
    let all : List Hint = course.found ++ hint.Loop found.number ∷ hints in
    let mid = then_ok (placed place (comes_to (around found.one) scope.cert.cond found.one.cases state hints))
    (λ come. leaves scope place (around found.one) come.case found.one.exits 0 state (record course { found = all })) after e in
    leaves_loops scope place (around found.one) mid.0.case found.one.exits 0 state (record course { found = all }) after mid.2

-- the loops that were made are few
abbrev IsFew : Making → Type 0
IsFew making = first_number making.course + length making.made ≤ MOST_LOOPS

loop_few : (place : Place) (found : Option Numbered) (new : Option Loop) (making : Making) (known : Numbered × Making) → IsFew making
    → loop_made place found new making ≡ Ok known → IsFew known.1
loop_few place (Some found) new making known few e = subst (λ (k : Numbered × Making). IsFew k.1) (sym (ok_is (found, making) known e)) few
loop_few place None None making known few e = absurd (cc)
loop_few place None (Some one) making known few e =
    let there = where_ok (nat_lt (first_number making.course + length making.made) MOST_LOOPS) _ _ known e in
    let longer : length (making.made ++ one ∷ []) ≡ length making.made + 1 = length-append making.made (one ∷ []) in
    let below = less (first_number making.course + length making.made) there.0 in
    subst (λ (k : Numbered × Making). IsFew k.1) (sym (ok_is _ known there.1)) (omega (arith, longer, below))
  where
    less : (n : ℕ) → nat_lt n MOST_LOOPS ≡ true → n < MOST_LOOPS
    less n e = grind (arith, nat_tests)

while_few : (make : Make) (scope : Scope) (place : Place) (states earlier : List State) (one : Option While) (making after : Making) → IsFew making
    → while_made make scope place states earlier one making ≡ Ok after → IsFew after
while_few make scope place states earlier None making after few e = absurd (cc)
while_few make scope place states earlier (Some one) making after few e =
    let found = numbered one (first_number making.course) making.made in
    let known = then_ok (loop_made place found (make one.test one.body (entering_with scope one states)) making) _ after e in
    let used = then_ok (made_used scope place known.0.0 (length (entering_with scope one earlier)) one.rest known.0.1.course) _ after known.2 in
    let kept = used_loops scope place known.0.0 (length (entering_with scope one earlier)) one.rest known.0.1.course used.0 used.1 in
    let low : first_number known.0.1.course + length known.0.1.made ≤ MOST_LOOPS = loop_few place found _ making known.0 few known.1 in
    subst IsFew (sym (ok_is _ after used.2))
    (subst (λ (n : ℕ). n + length known.0.1.made ≤ MOST_LOOPS) (sym kept) low)

taken_few : (make : Make) (scope : Scope) (place : Place) (states earlier : List State) (state : State) (making after : Making) → IsFew making
    → while_taken make scope place states earlier state making ≡ Ok after → IsFew after
taken_few make scope place states earlier state making after few e =
    let found = then_ok (placed place (two_of Func Func state)) (λ two. while_made make scope place states earlier (while_of scope state two) making) after e in
    while_few make scope place states earlier (while_of scope state found.0) making after few found.2

-- what a `while$` keeps where loops may be made
record Kept (style : Style) (before after : Making) : Type 0 where
  pub made : AreMade style after
  pub rises : before.course.count ≤ after.course.count

while_kept : (make : Make) (scope : Scope) (place : Place) (states earlier : List State) (state : State) (making after : Making) → Told scope
    → MakesLoops scope.style make → All (WellMade scope.style) states → IsAmong state states → WellMade scope.style state → AreMade scope.style making
    → while_taken make scope place states earlier state making ≡ Ok after → Kept scope.style making after
while_kept make scope place states earlier state making after told makes all among well made e =
    let whiled = while_moved make scope place states earlier state making after told makes all among well made.made e in
    record {
      made = record { made = whiled.made; few = taken_few make scope place states earlier state making after made.few e };
      rises = whiled.moved.count;
    }

-- the same of a call
kept_by : {T : Type 0} (style : Style) (making after : Making) (wanted : Result Making Refusal) (result : Result T Refusal)
    → (wanted ≡ Ok after → Kept style making after) → Takes wanted after result → OnOk result (Kept style making after)
kept_by {T} style making after wanted (Ok x) keeps takes = keeps takes
kept_by {T} style making after wanted (Err refusal) keeps takes = tt

on_ok : {T : Type 0} (P Q : Type 0) (result : Result T Refusal) → (P → Q) → OnOk result P → OnOk result Q
on_ok {T} P Q (Ok x) weaker holds = weaker holds
on_ok {T} P Q (Err refusal) weaker holds = tt

call_kept : {T : Type 0} (over : Over) (style : Style) (make : Option Make) (place : Place) (states earlier : List State) (state : State) (making after : Making)
    (result : Result T Refusal) → CanWalk over style make → All (WellMade over.style) states → IsAmong state states → WellMade over.style state
    → AreMade over.style making → Takes (while_taken (made_by make) (scope_of over make) place states earlier state making) after result
    → OnOk result (Kept over.style making after)
call_kept {T} over style make place states earlier state making after result can all among well made takes =
    let scope = scope_of over make in
    kept_by over.style making after (while_taken (made_by make) scope place states earlier state making) result
    (while_kept (made_by make) scope place states earlier state making after (told_by scope can.sound can.certified can.makes)
    (made_loops over.style make can.makes) all among well made) takes

pub call_made : {T : Type 0} (over : Over) (style : Style) (make : Option Make) (place : Place) (states earlier : List State) (state : State)
    (making after : Making) (result : Result T Refusal) → CanWalk over style make → All (WellMade over.style) states → IsAmong state states
    → WellMade over.style state → AreMade over.style making
    → Takes (while_taken (made_by make) (scope_of over make) place states earlier state making) after result → OnOk result (AreMade over.style after)
call_made {T} over style make place states earlier state making after result can all among well made takes =
    on_ok (Kept over.style making after) (AreMade over.style after) result (λ kept. kept.made)
    (call_kept over style make place states earlier state making after result can all among well made takes)

pub call_rises : {T : Type 0} (over : Over) (style : Style) (make : Option Make) (place : Place) (states earlier : List State) (state : State)
    (making after : Making) (result : Result T Refusal) → CanWalk over style make → All (WellMade over.style) states → IsAmong state states
    → WellMade over.style state → AreMade over.style making
    → Takes (while_taken (made_by make) (scope_of over make) place states earlier state making) after result
    → OnOk result (making.course.count ≤ after.course.count)
call_rises {T} over style make place states earlier state making after result can all among well made takes =
    on_ok (Kept over.style making after) (making.course.count ≤ after.course.count) result (λ kept. kept.rises)
    (call_kept over style make place states earlier state making after result can all among well made takes)

-- the states of a token that are left
pub next_whiled : (make : Make) (scope : Scope) (place : Place) (states earlier next later rest : List State) (state : State) (making after : Making)
    (counted : Course) (whole : Result Making Refusal) → later ≡ state ∷ rest → next ≡ earlier ++ state ∷ []
    → whiles_taken make scope place states earlier later making ≡ whole → counts 1 place making.course ≡ Ok counted
    → while_taken make scope place states earlier state (record making { course = counted }) ≡ Ok after
    → whiles_taken make scope place states next rest after ≡ whole
next_whiled make scope place states earlier next later rest state making after counted whole is more left count taken =
    let step : Course → Result Making Refusal = λ course.
    then_do (while_taken make scope place states earlier state (record making { course = course })) (whiles_taken make scope place states (earlier ++ state ∷ []) rest) in
    ap (λ (l : List State). whiles_taken make scope place states l rest after) more
    ∙ sym (ap (λ (l : List State). whiles_taken make scope place states earlier l making) is
    ∙ first_goes (counts 1 place making.course) step counted count
    ∙ first_goes (while_taken make scope place states earlier state (record making { course = counted })) (whiles_taken make scope place states (earlier ++ state ∷ []) rest) after taken)
    ∙ left

pub count_refused : (make : Make) (scope : Scope) (place : Place) (states earlier later rest : List State) (state : State) (making : Making)
    (whole : Result Making Refusal) (refusal : Refusal) → later ≡ state ∷ rest → whiles_taken make scope place states earlier later making ≡ whole
    → Refused (counts 1 place making.course) refusal → Refused whole refusal
count_refused make scope place states earlier later rest state making whole refusal is left refused differs =
    sym left ∙ ap (λ (l : List State). whiles_taken make scope place states earlier l making) is
    ∙ first_refused (counts 1 place making.course) _ refusal refused differs

pub while_refused : (make : Make) (scope : Scope) (place : Place) (states earlier later rest : List State) (state : State) (making : Making) (counted : Course)
    (whole : Result Making Refusal) (refusal : Refusal) → later ≡ state ∷ rest → whiles_taken make scope place states earlier later making ≡ whole
    → counts 1 place making.course ≡ Ok counted
    → Refused (while_taken make scope place states earlier state (record making { course = counted })) refusal → Refused whole refusal
while_refused make scope place states earlier later rest state making counted whole refusal is left count refused differs =
    sym left ∙ ap (λ (l : List State). whiles_taken make scope place states earlier l making) is
    ∙ first_goes (counts 1 place making.course) _ counted count
    ∙ first_refused (while_taken make scope place states earlier state (record making { course = counted })) _ refusal refused differs

-- the case that a state came to
abbrev come_so : Piece → List Hint → Result Come EffectFault
come_so case left = Ok (record { case = case; hints = left })

-- a case of a loop that was made
pub long_case : (place : Place) (unit : Passage) (c : Cond) (case : Piece) (state : State) (hints : List Hint) → length state.stack < length case.stack
    → placed place (comes_by_case unit c (Some case) state hints) ≡ refuses place (NotEntailed 0)
long_case place unit c case state hints long =
    ap (λ (r : Result (List Hint) EffectFault). placed place (then_do r (come_so case))) (at_fits (fits unit case state))
  where
    over : nat_lt (length state.stack) (length case.stack) ≡ true
    over = grind (arith, nat_tests)

    stops : (b : Bool) (rest : Result (List Hint) EffectFault) → b ≡ true → cond b (Err (fault.NotEntailed 0)) rest ≡ Err (fault.NotEntailed 0)
    stops true rest e = refl
    stops false rest e = absurd (cc)

    at_fits : (b : Bool) → cond b (piece_by c state case 0 hints) (Err (fault.NotEntailed 0)) ≡ Err (fault.NotEntailed 0)
    at_fits true = stops (nat_lt (length state.stack) (length case.stack)) _ over
    at_fits false = refl

-- the hints by which a state comes to a loop that was made
coming_are : (admits : Cond) (state : State) (k number : ℕ) (one : Loop) (case : Piece) (steps : List Hint) → slice_get one.cases k ≡ Some case
    → steps ≡ piece_hints Straight admits state case → coming_hints admits state k (record { number = number; one = one }) ≡ hint.Case k ∷ steps
coming_are admits state k number one case steps there are =
    ap (λ (o : Option Piece). hint.Case k ∷ option_map_or (piece_hints Straight admits state) o []) there ∙ ap (λ (l : List Hint). hint.Case k ∷ l) (sym are)

-- it is left, and used, by hints
abbrev left_by : Scope → Place → Loop → ℕ → State → Course → List Hint → Come → Walk
left_by scope place one number state course hints come =
    leaves scope place (around one) come.case one.exits 0 state (record course { found = course.found ++ hint.Loop number ∷ hints })

abbrev used_by : Scope → Place → Loop → ℕ → State → Course → List Hint → Walk
used_by scope place one number state course hints =
    then_do (placed place (comes_to (around one) scope.cert.cond one.cases state hints)) (left_by scope place one number state course hints)

pub used_takes : {T : Type 0} (scope : Scope) (place : Place) (one : Loop) (number k : ℕ) (case : Piece) (state : State) (course found after : Course)
    (steps left : List Hint) (result : Result T Refusal) → slice_get one.cases k ≡ Some case → steps ≡ piece_hints Straight scope.cert.cond state case
    → placed place (comes_by (around one) scope.cert.cond case state steps) ≡ Ok left
    → found ≡ record course { found = course.found ++ hint.Loop number ∷ (hint.Case k ∷ steps) }
    → Takes (leaves scope place (around one) case one.exits 0 state found) after result
    → Takes (made_used scope place (record { number = number; one = one }) k state course) after result
used_takes {T} scope place one number k case state course found after steps left result there are comes is takes =
    let admits = scope.cert.cond in
    let come = placed_ok place (comes_by (around one) admits case state steps) left comes in
    let by : comes_to (around one) admits one.cases state (hint.Case k ∷ steps) ≡ come_so case left =
    ap (λ (o : Option Piece). comes_by_case (around one) admits o state steps) there
    ∙ ap (λ (r : Result (List Hint) EffectFault). then_do r (come_so case)) come in
    takes_same _ (leaves scope place (around one) case one.exits 0 state found) after result
    (ap (used_by scope place one number state course) (coming_are admits state k number one case steps there are)
    ∙ first_goes (placed place (comes_to (around one) admits one.cases state (hint.Case k ∷ steps))) (left_by scope place one number state course (hint.Case k ∷ steps))
    (record { case = case; hints = left }) (ap (placed place) by)
    ∙ ap (leaves scope place (around one) case one.exits 0 state) (sym is)) takes

pub case_refused : (scope : Scope) (place : Place) (one : Loop) (number k : ℕ) (state : State) (course : Course) (refusal : Refusal)
    → ((hints : List Hint) → Refused (placed place (comes_to (around one) scope.cert.cond one.cases state (hint.Case k ∷ hints))) refusal)
    → Refused (made_used scope place (record { number = number; one = one }) k state course) refusal
case_refused scope place one number k state course refusal refused =
    let steps = option_map_or (piece_hints Straight scope.cert.cond state) (slice_get one.cases k) [] in
    first_refused (placed place (comes_to (around one) scope.cert.cond one.cases state (hint.Case k ∷ steps)))
    (left_by scope place one number state course (hint.Case k ∷ steps)) refusal (refused steps)

pub steps_refused : (scope : Scope) (place : Place) (one : Loop) (number k : ℕ) (case : Piece) (state : State) (course : Course) (steps : List Hint)
    (refusal : Refusal) → slice_get one.cases k ≡ Some case → steps ≡ piece_hints Straight scope.cert.cond state case
    → Refused (placed place (comes_by (around one) scope.cert.cond case state steps)) refusal
    → Refused (made_used scope place (record { number = number; one = one }) k state course) refusal
steps_refused scope place one number k case state course steps refusal there are refused differs =
    let admits = scope.cert.cond in
    ap (used_by scope place one number state course) (coming_are admits state k number one case steps there are)
    ∙ first_refused (placed place (comes_to (around one) admits one.cases state (hint.Case k ∷ steps)))
    (left_by scope place one number state course (hint.Case k ∷ steps)) refusal
    (λ differs. ap (λ (o : Option Piece). placed place (comes_by_case (around one) admits o state steps)) there
    ∙ fault_placed (comes_by (around one) admits case state steps) (refused differs)) differs
  where
    fault_placed : (r : Result (List Hint) EffectFault) → placed place r ≡ Err refusal → placed place (then_do r (come_so case)) ≡ Err refusal
    fault_placed (Ok left) e = absurd (cc)
    fault_placed (Err fault) e = cc

first_is : {X : Type 0} (x y : X) (xs ys : List X) → x ∷ xs ≡ y ∷ ys → x ≡ y
first_is x y xs ys e = cc

-- the state at an index is one of them, and comes behind those before it
pub among_at : (states rest : List State) (state : State) (k : ℕ) → drop k states ≡ state ∷ rest → IsAmong state states
among_at [] rest state zero e = absurd (cc)
among_at [] rest state (suc k) e = absurd (cc)
among_at (first ∷ states) rest state zero e = inl (sym (first_is first state states rest e))
among_at (first ∷ states) rest state (suc k) e = inr (among_at states rest state k e)

behind : (states rest : List State) (state : State) (k : ℕ) → drop k states ≡ state ∷ rest → take (suc k) states ≡ take k states ++ state ∷ []
behind [] rest state zero e = absurd (cc)
behind [] rest state (suc k) e = absurd (cc)
behind (first ∷ states) rest state zero e = ap (λ (x : State). x ∷ []) (first_is first state states rest e)
behind (first ∷ states) rest state (suc k) e = ap (λ (l : List State). first ∷ l) (behind states rest state k e)

pub taken_before : (states rest : List State) (state : State) (k : ℕ) → drop k states ≡ state ∷ rest → take (k + 1) states ≡ take k states ++ state ∷ []
taken_before states rest state k e = ap (λ (n : ℕ). take n states) (add-one k) ∙ behind states rest state k e

-- each state has room while the walk goes on
pub all_later : (style : Style) (low high : ℕ) (states : List State) → low ≤ high → All (HasRoom style 0 low) states → All (HasRoom style 0 high) states
all_later style low high states rises all = all_room style low high states rises all

pub all_made_well : (style : Style) (count : ℕ) (states : List State) → All (HasRoom style 0 count) states → All (WellMade style) states
all_made_well style count states all = All-weaker (HasRoom style 0 count) (WellMade style) (λ state room. room.made) states all

pub room_at : (style : Style) (count : ℕ) (states rest : List State) (state : State) (k : ℕ) → drop k states ≡ state ∷ rest
    → All (HasRoom style 0 count) states → HasRoom style 0 count state
room_at style count states rest state k e all =
    All-head (HasRoom style 0 count) state rest (subst (All (HasRoom style 0 count)) e (All-drop (HasRoom style 0 count) k states all))

pub counted_room : (style : Style) (state : State) (place : Place) (course counted : Course) → counts 1 place course ≡ Ok counted
    → HasRoom style 0 course.count state → HasRoom style 64 counted.count state
counted_room style state place course counted e room =
    let few = room.few in
    let more : counted.count ≡ course.count + 1 = ap (λ (c : Course). c.count) (counts_ok 1 place course counted e) in
    record { made = room.made; few = omega (arith, few, more) }

pub counted_made : (style : Style) (place : Place) (made : List Loop) (course counted : Course) → counts 1 place course ≡ Ok counted
    → AreMade style (record { made = made; course = course }) → AreMade style (record { made = made; course = counted })
counted_made style place made course counted e all =
    let same : first_number counted ≡ first_number course = ap first_number (counts_ok 1 place course counted e) in
    record { made = all.made; few = subst (λ (n : ℕ). n + length made ≤ MOST_LOOPS) (sym same) all.few }

pub counted_later : (place : Place) (course counted after : Course) → counts 1 place course ≡ Ok counted → counted.count ≤ after.count → course.count ≤ after.count
counted_later place course counted after e rises =
    let more : counted.count ≡ course.count + 1 = ap (λ (c : Course). c.count) (counts_ok 1 place course counted e) in
    omega (arith, more, rises)

-- none was made yet
pub none_are : (style : Style) (made : List Loop) (course : Course) → made ≡ [] → first_number course ≤ MOST_LOOPS
    → AreMade style (record { made = made; course = course })
none_are style made course none few =
    subst (λ (l : List Loop). AreMade style (record { made = l; course = course })) (sym none)
    (record { made = All-nil (IsLoopOf style); few = omega (arith, few) })

-- those that were made come behind the ones before
pub all_take : {T : Type 0} (first : Result Making Refusal) (making : Making) (after : Course) (result : Result T Refusal) → first ≡ Ok making
    → MatchResult result (λ _. after ≡ all_made making) (λ refusal. refusal.reason ≡ WantOfMemory)
    → Takes (then_do first (λ making. Ok (all_made making))) after result
all_take {T} first making after (Ok x) e is = first_goes first (λ making. Ok (all_made making)) making e ∙ ap (λ (c : Course). let ok : Walk = Ok c in ok) (sym is)
all_take {T} first making after (Err refusal) e is = λ differs. absurd (differs is)

only_one : (make : Make) (scope : Scope) (place : Place) (states earlier : List State) (state : State) (made : List Loop) (course : Course) → states ≡ state ∷ []
    → earlier ≡ [] → made ≡ []
    → while_taken make scope place states earlier state (record { made = made; course = course })
    ≡ while_taken make scope place (state ∷ []) [] state (record { made = []; course = course })
only_one make scope place states earlier state made course one none empty =
    ap (λ (l : List State). while_taken make scope place l earlier state (record { made = made; course = course })) one
    ∙ ap (λ (l : List State). while_taken make scope place (state ∷ []) l state (record { made = made; course = course })) none
    ∙ ap (λ (l : List Loop). while_taken make scope place (state ∷ []) [] state (record { made = l; course = course })) empty

pub alone_take : {T : Type 0} (make : Make) (scope : Scope) (place : Place) (states earlier : List State) (state : State) (made : List Loop) (making : Making)
    (course after : Course) (result : Result T Refusal) → states ≡ state ∷ [] → earlier ≡ [] → made ≡ []
    → while_taken make scope place states earlier state (record { made = made; course = course }) ≡ Ok making
    → MatchResult result (λ _. after ≡ all_made making) (λ refusal. refusal.reason ≡ WantOfMemory)
    → Takes (while_alone make scope place state course) after result
alone_take {T} make scope place states earlier state made making course after result one none empty e is =
    all_take (while_taken make scope place (state ∷ []) [] state (record { made = []; course = course })) making after result
    (sym (only_one make scope place states earlier state made course one none empty) ∙ e) is

pub alone_refused : (make : Make) (scope : Scope) (place : Place) (states earlier : List State) (state : State) (made : List Loop) (course : Course)
    (refusal : Refusal) → states ≡ state ∷ [] → earlier ≡ [] → made ≡ []
    → Refused (while_taken make scope place states earlier state (record { made = made; course = course })) refusal
    → Refused (while_alone make scope place state course) refusal
alone_refused make scope place states earlier state made course refusal one none empty refused =
    first_refused (while_taken make scope place (state ∷ []) [] state (record { made = []; course = course })) (λ making. Ok (all_made making)) refusal
    (λ differs. sym (only_one make scope place states earlier state made course one none empty) ∙ refused differs)

pub whiles_end : {T : Type 0} (make : Make) (scope : Scope) (place : Place) (states : List State) (made : List Loop) (making : Making) (course after : Course)
    (result : Result T Refusal) → made ≡ [] → whiles_taken make scope place states [] states (record { made = made; course = course }) ≡ Ok making
    → MatchResult result (λ _. after ≡ all_made making) (λ refusal. refusal.reason ≡ WantOfMemory)
    → Takes (whiles_from make scope place states course) after result
whiles_end {T} make scope place states made making course after result empty e is =
    all_take (whiles_taken make scope place states [] states (record { made = []; course = course })) making after result
    (sym (ap (λ (l : List Loop). whiles_taken make scope place states [] states (record { made = l; course = course })) empty) ∙ e) is

pub whiles_refused : (make : Make) (scope : Scope) (place : Place) (states : List State) (made : List Loop) (course : Course) (refusal : Refusal) → made ≡ []
    → Refused (whiles_taken make scope place states [] states (record { made = made; course = course })) refusal
    → Refused (whiles_from make scope place states course) refusal
whiles_refused make scope place states made course refusal empty refused =
    first_refused (whiles_taken make scope place states [] states (record { made = []; course = course })) (λ making. Ok (all_made making)) refusal
    (λ differs. sym (ap (λ (l : List Loop). whiles_taken make scope place states [] states (record { made = l; course = course })) empty) ∙ refused differs)

-- what holds of a value that is held
pub ok_has : {A E : Type 0} (P : A → Type 0) (r : Result A E) (x : A) → r ≡ Ok x → IfOk r P → P x
ok_has {A} {E} P r x e has = subst (λ (r : Result A E). IfOk r P) e has

-- the loop that is made of those that enter
pub found_is : (answer : Result (Option Loop) Wanting) (wanted : Option Loop) (result : Result (Option Loop) Refusal)
    → MatchResult result (λ value. answer ≡ Ok value) (λ refusal. refusal.reason ≡ WantOfMemory) → IfOk answer (λ found. found ≡ wanted)
    → MatchResult result (λ found. found ≡ wanted) (λ refusal. refusal.reason ≡ WantOfMemory)
found_is answer wanted (Ok found) held is = ok_has (λ (found : Option Loop). found ≡ wanted) answer found held is
found_is answer wanted (Err refusal) held is = held

pub found_sound : (style : Style) (answer : Result (Option Loop) Wanting) (wanted : Option Loop) (result : Result (Option Loop) Refusal)
    → MatchResult result (λ value. answer ≡ Ok value) (λ refusal. refusal.reason ≡ WantOfMemory) → IfOk answer (λ found. found ≡ wanted)
    → IfSome wanted (IsLoopOf style) → IfOk result (λ found. IfSome found (IsLoopOf style))
found_sound style answer wanted (Ok found) held is sound =
    subst (λ (o : Option Loop). IfSome o (IsLoopOf style)) (sym (ok_has (λ (found : Option Loop). found ≡ wanted) answer found held is)) sound
found_sound style answer wanted (Err refusal) held is sound = tt

pub found_entering : (make : Make) (test body : Target) (entering wanted : List State) (answer : Result (Option Loop) Wanting) → entering ≡ wanted
    → IfOk answer (λ found. found ≡ make test body entering) → IfOk answer (λ found. found ≡ make test body wanted)
found_entering make test body entering wanted answer is found =
    subst (λ (l : List State). IfOk answer (λ found. found ≡ make test body l)) is found

pub loop_sound : (over : Over) (style : Style) (make : Option Make) (one : While) (states : List State) → CanWalk over style make → All (WellMade over.style) states
    → 1 ≤ length (entering_with (scope_of over make) one states)
    → IfSome (made_by make one.test one.body (entering_with (scope_of over make) one states)) (IsLoopOf over.style)
loop_sound over style make one states can all some =
    made_loops over.style make can.makes one.test one.body (entering_with (scope_of over make) one states) some (entering_all (scope_of over make) one states all)

pub entering_made : (over : Over) (style : Style) (make : Option Make) (one : While) (states entering : List State) → CanWalk over style make
    → All (WellMade over.style) states → entering ≡ entering_with (scope_of over make) one states → All (WellMade style) entering
entering_made over style make one states entering can all is =
    subst (λ (s : Style). All (WellMade s) entering) (sym can.same)
    (subst (All (WellMade over.style)) (sym is) (entering_all (scope_of over make) one states all))

-- the loop at a place is one of the style
pub loop_there : (style : Style) (making : Making) (k : ℕ) (found : Loop) → AreMade style making → slice_get making.made k ≡ Some found → IsLoopOf style found
loop_there style making k found all there = element (IsLoopOf style) making.made k found all.made there

-- a piece is shown by steps at a place, or it isn't
shown_same : (unit other : Passage) (c admits : Cond) (hints steps : List Hint) (case : Piece) (state : State) → unit ≡ other → c ≡ admits → hints ≡ steps
    → comes_by unit c case state hints ≡ comes_by other admits case state steps
shown_same unit other c admits hints steps case state unit_is cond_is hints_are =
    ap (λ (u : Passage). comes_by u c case state hints) unit_is
    ∙ ap (λ (a : Cond). comes_by other a case state hints) cond_is
    ∙ ap (comes_by other admits case state) hints_are

pub came_ok : {T : Type 0} (place : Place) (unit other : Passage) (c admits : Cond) (hints steps : List Hint) (case : Piece) (state : State) (left : List Hint)
    (given : Result T EffectFault) (answer : Result T Refusal) (x : T) → unit ≡ other → c ≡ admits → hints ≡ steps → answer ≡ placed place given → answer ≡ Ok x
    → Leaves fault.NoMemory (comes_by unit c case state hints) left given → placed place (comes_by other admits case state steps) ≡ Ok left
came_ok {T} place unit other c admits hints steps case state left given answer x unit_is cond_is hints_are is ok leaves =
    ap (placed place) (sym (shown_same unit other c admits hints steps case state unit_is cond_is hints_are)
    ∙ MatchResult-at_ok {r = answer} _ _ x ok (placed_leaves place (comes_by unit c case state hints) left given answer is leaves))

pub came_refused : {T : Type 0} (place : Place) (unit other : Passage) (c admits : Cond) (hints steps : List Hint) (case : Piece) (state : State) (left : List Hint)
    (given : Result T EffectFault) (answer : Result T Refusal) (refusal : Refusal) → unit ≡ other → c ≡ admits → hints ≡ steps → answer ≡ placed place given
    → answer ≡ Err refusal → Leaves fault.NoMemory (comes_by unit c case state hints) left given
    → Refused (placed place (comes_by other admits case state steps)) refusal
came_refused {T} place unit other c admits hints steps case state left given answer refusal unit_is cond_is hints_are is fails leaves differs =
    ap (placed place) (sym (shown_same unit other c admits hints steps case state unit_is cond_is hints_are))
    ∙ MatchResult-at_err {r = answer} _ _ refusal fails (placed_leaves place (comes_by unit c case state hints) left given answer is leaves) differs

-- what holds of one holds of all, where it is the only one
pub all_only : (P : State → Type 0) (state : State) (states : List State) → states ≡ state ∷ [] → P state → All P states
all_only P state states is holds = subst (All P) (sym is) (All-cons P state [] holds (All-nil P))

pub among_only : (state : State) (states : List State) → states ≡ state ∷ [] → IsAmong state states
among_only state states is = subst (IsAmong state) (sym is) (inl refl)
