-- Loops that are made: a state that comes to one is followed by what it leaves.
use Rattle.std.proofs.Common.{◌≡◌, ℕ, ◌≤◌, Bool, true, false, ◌&&◌, List, [], ◌∷◌, ◌++◌, length, Option, None, Some, IfSome, Result, Ok, Err, refl, sym, ap, ◌∙◌, subst, arith, inl, inr, reverse, cond, nat_eq, nat_lt, suc, ◌<◌}
use Rattle.std.specs.List.{All, cons_option}
use Rattle.std.specs.Option.{option_and_then, option_map_or}
use Rattle.std.specs.Result.{result_ok}
use Rattle.std.proofs.lemmas.Bool.Decides.{nat_tests}
use Rattle.std.proofs.lemmas.List.Elements.{All-append, All-cons, All-head, All-nil, All-tail}
use Rattle.bv_base.specs.declared.place.Place.{Place}
use Rattle.bv_base.proofs.ThenLemmas.{ok_is, then_ok, where_ok}
use Rattle.name_table.specs.declared.style.Token.{Token}
use Rattle.bst_meaning.specs.declared.value.Target.{Target}
use Rattle.bst_meaning.specs.declared.value.Target.TheVariants.{Named, Block}
use Rattle.cert_format.specs.CertText.{IsLoop}
use Rattle.cert_format.specs.declared.cert.Loop.{Loop}
use Rattle.sym_state.specs.declared.symbol.Sym.{Sym}
use Rattle.sym_state.specs.declared.demand.EffectFault.{EffectFault}
use Rattle.sym_state.specs.State.{State}
use Rattle.sym_state.specs.Demands.{Two, two_of}
use Rattle.sym_state.specs.WellMade.{WellMade}
use Rattle.sym_state.specs.declared.hint.Hint.{Hint}
use Rattle.sym_state.specs.declared.hint.Hint.TheVariants as hint
use Rattle.sym_state.specs.declared.symbol.Kinds.TheVariants.{Func}
use Rattle.sym_state.proofs.Resulting.{rest_made}
use Rattle.sym_state.proofs.Leaving.{moved}
use Rattle.sym_state.proofs.Frames.{all_reversed}
use Rattle.refinements.specs.Covered.{IsAmong}
use Rattle.cert_check.specs.Certified.{HasMade, IsLoopOf, IsPieceOf, IsStanding, MakesLoops, MakesStanding}
use Rattle.cert_check.specs.Courses.{Course, first_number, placed}
use Rattle.cert_check.specs.declared.limits.TheConstants.{MOST_LOOPS}
use Rattle.cert_check.specs.Uses.{around}
use Rattle.cert_check.specs.Walks.{Make, Making, Numbered, Scope, While, all_made, comes_to, coming_hints, entering_with, exact_target, is_target, is_while_token, leaves, loop_made, made_used, making_for, next_number, none_made, numbered, rest_of, while_alone, while_by, while_in, while_made, while_of, while_taken}
use Rattle.cert_check.proofs.Followed.{Follows, Moved, left_follows, moved_from, refound, remade}
use Rattle.cert_check.proofs.Inverted.{placed_ok}
use Rattle.cert_check.proofs.Keeping.{Told, comes_to_ok, element, leaves_moved}
use Rattle.cert_check.proofs.Nameable.{while_named}
use Rattle.cert_check.proofs.Passing.{loop_passed}
use Rattle.cert_check.proofs.Repeating.{TwoMet, two_ok, without_two}

-- the state without the two functions follows
pub popped_follows : (scope : Scope) (state : State) (met : TwoMet state (reverse state.stack)) → WellMade scope.style state
    → Follows scope state (without_two state (reverse state.stack) met)
popped_follows scope state met made =
    let below = all_reversed state.next state.stack made.stack in
    let under = All-tail (λ (s : Sym). s.0 < state.next) met.test met.rest
    (All-tail (λ (s : Sym). s.0 < state.next) met.body (met.test ∷ met.rest)
    (subst (λ (l : List Sym). All (λ (s : Sym). s.0 < state.next) l) met.on_top below)) in
    left_follows scope state (without_two state (reverse state.stack) met) (rest_made scope.style state met.rest made under) (moved state (reverse met.rest))

-- what is left without two functions follows the state
rest_follows : (scope : Scope) (state : State) (two : Two) → two_of Func Func state ≡ Ok two → WellMade scope.style state → Follows scope state two.rest
rest_follows scope state two e made =
    let both = two_ok state (reverse state.stack) two e in
    subst (λ (t : Two). Follows scope state t.rest) (sym both.1) (popped_follows scope state both.0 made)

-- it knows the same symbols
rest_next : (state : State) (two : Two) → two_of Func Func state ≡ Ok two → two.rest.next ≡ state.next
rest_next state two e =
    let both = two_ok state (reverse state.stack) two e in
    subst (λ (t : Two). t.rest.next ≡ state.next) (sym both.1) refl

-- a `while$` with both functions known leaves what is left without them
while_rest : (test body : Option Target) (rest : State) (one : While) → while_by test body rest ≡ Some one → one.rest ≡ rest
while_rest (Some test) (Some body) rest one e = ap (λ (w : While). w.rest) (sym (some_is one e))
  where
    some_is : (w : While) → Some (record { test = test; body = body; rest = rest }) ≡ Some w → record { test = test; body = body; rest = rest } ≡ w
    some_is w is = ap (λ (o : Option While). option_map_or (λ x. x) o w) is
while_rest (Some test) None rest one e = absurd (cc)
while_rest None body rest one e = absurd (cc)

-- so the state that enters is well made
entering_one : (scope : Scope) (one : While) (state : State) → WellMade scope.style state
    → IfSome (option_and_then (rest_of one) (while_in scope state)) (WellMade scope.style)
entering_one scope one state made = by_two (two_of Func Func state) refl
  where
    by_rest : (two : Two) → two_of Func Func state ≡ Ok two → (test body : Option Target)
        → IfSome (option_and_then (rest_of one) (while_by test body two.rest)) (WellMade scope.style)
    by_rest two e (Some test) (Some body) =
        elim (is_target one.test test && is_target one.body body) as (λ (b : Bool). IfSome (cond b (Some two.rest) None) (WellMade scope.style)) [
          | true ↦ (rest_follows scope state two e made).made
          | false ↦ tt
        ]
    by_rest two e (Some test) None = tt
    by_rest two e None body = tt

    by_two : (r : Result Two EffectFault) → two_of Func Func state ≡ r
        → IfSome (option_and_then (rest_of one) (option_and_then (while_of scope state) (result_ok r))) (WellMade scope.style)
    by_two (Ok two) e = by_rest two e (exact_target scope.style state two.lower) (exact_target scope.style state two.upper)
    by_two (Err fault) e = tt

kept_all : (P : State → Type 0) (o : Option State) (states : List State) → IfSome o P → All P states → All P (cons_option o states)
kept_all P (Some state) states is later = All-cons P state states is later
kept_all P None states is later = later

-- so are all that enter
pub entering_all : (scope : Scope) (one : While) (states : List State) → All (WellMade scope.style) states → All (WellMade scope.style) (entering_with scope one states)
entering_all scope one [] made = All-nil (WellMade scope.style)
entering_all scope one (state ∷ states) made =
    kept_all (WellMade scope.style) (option_and_then (rest_of one) (while_in scope state)) (entering_with scope one states)
    (entering_one scope one state (All-head (WellMade scope.style) state states made))
    (entering_all scope one states (All-tail (WellMade scope.style) state states made))

same_self : (n : ℕ) → nat_eq n n ≡ true
same_self n = grind (arith, nat_tests)

-- a target is the same as itself
pub target_self : (target : Target) → is_target target target ≡ true
target_self (Named name) = same_self name.0
target_self (Block body) = same_self body.0

-- a state among those of a list enters
enters_itself : (scope : Scope) (one : While) (state : State) → while_in scope state ≡ Some one
    → option_and_then (rest_of one) (while_in scope state) ≡ Some one.rest
enters_itself scope one state is =
    ap (λ (o : Option While). option_and_then (rest_of one) o) is
    ∙ ap (λ (b : Bool). cond (b && is_target one.body one.body) (Some one.rest) None) (target_self one.test)
    ∙ ap (λ (b : Bool). cond b (Some one.rest) None) (target_self one.body)

-- so one enters at least
pub some_enter : (scope : Scope) (one : While) (state : State) (states : List State) → while_in scope state ≡ Some one → IsAmong state states
    → 1 ≤ length (entering_with scope one states)
some_enter scope one state [] is among = absurd among
some_enter scope one state (first ∷ states) is (inl same) =
    subst (λ (o : Option State). 1 ≤ length (cons_option o (entering_with scope one states)))
    (sym (ap (λ (x : State). option_and_then (rest_of one) (while_in scope x)) (sym same) ∙ enters_itself scope one state is)) (omega arith)
some_enter scope one state (first ∷ states) is (inr later) =
    elim (option_and_then (rest_of one) (while_in scope first)) as (λ (o : Option State). 1 ≤ length (cons_option o (entering_with scope one states))) [
      | Some rest ↦ omega arith
      | None ↦ some_enter scope one state states is later
    ]

-- a loop that was made is used
made_moved : (scope : Scope) (place : Place) (found : Numbered) (k : ℕ) (state : State) (course after : Course) → Told scope → IsLoopOf scope.style found.one
    → WellMade scope.style state → made_used scope place found k state course ≡ Ok after → Moved scope 64 state course after
made_moved scope place found k state course after told is made e =
    let one = found.one in
    let hints = coming_hints scope.cert.cond state k found in
    let come = comes_to (around one) scope.cert.cond one.cases state hints in
    let all : List Hint = course.found ++ hint.Loop found.number ∷ hints in
    let mid = then_ok (placed place come) (λ come. leaves scope place (around one) come.case one.exits 0 state (record course { found = all })) after e in
    let by = comes_to_ok scope one state hints mid.0 (placed_ok place come mid.0 mid.1) in
    let case = element (IsPieceOf scope.style one.entry) one.cases by.k mid.0.case is.cases by.there in
    refound scope 64 state course after all
    (leaves_moved scope place (around one) 0 mid.0.case one.exits state by.hints mid.0.hints (record course { found = all }) after told
    (loop_passed scope.style one mid.0.case is case) made by.came mid.2)

-- one that was made for the token is among those
numbered_one : (scope : Scope) (one : While) (number : ℕ) (made : List Loop) → All (IsLoopOf scope.style) made
    → IfSome (numbered one number made) (λ found. IsLoopOf scope.style found.one)
numbered_one scope one number [] all = tt
numbered_one scope one number (loop ∷ made) all =
    elim (is_target loop.test one.test && is_target loop.body one.body)
    as (λ (b : Bool). IfSome (cond b (Some (record { number = number; one = loop })) (numbered one (suc number) made)) (λ found. IsLoopOf scope.style found.one)) [
      | true ↦ All-head (IsLoopOf scope.style) loop made all
      | false ↦ numbered_one scope one (suc number) made (All-tail (IsLoopOf scope.style) loop made all)
    ]

-- the loop of a `while$`, and what was made with it, where this is the one that may be new
record Known (scope : Scope) (new : Option Loop) (known : Numbered × Making) (before : Making) : Type 0 where
  pub one : IsLoopOf scope.style known.0.one
  pub written : IfSome new (IsLoop scope.style) → All (IsStanding scope.style) before.made → All (IsStanding scope.style) known.1.made
  pub made : HasMade scope.style known.1
  pub course : known.1.course ≡ before.course

loop_known : (scope : Scope) (place : Place) (found : Option Numbered) (new : Option Loop) (making : Making) (known : Numbered × Making)
    → IfSome found (λ f. IsLoopOf scope.style f.one) → IfSome new (IsLoopOf scope.style) → HasMade scope.style making
    → loop_made place found new making ≡ Ok known → Known scope new known making
loop_known scope place (Some found) new making known is fresh made e =
    subst (λ (k : Numbered × Making). Known scope new k making) (sym (ok_is (found, making) known e))
    (record { one = is; written = λ new all. all; made = made; course = refl })
loop_known scope place None None making known is fresh made e = absurd (cc)
loop_known scope place None (Some one) making known is fresh made e =
    let there = where_ok (nat_lt (next_number making) MOST_LOOPS) _ _ known e in
    subst (λ (k : Numbered × Making). Known scope (Some one) k making) (sym (ok_is _ known there.1)) (record {
      one = fresh;
      written = λ new all.
          All-append (IsStanding scope.style) making.made (one ∷ []) all
          (All-cons (IsStanding scope.style) one [] (record { of_style = fresh; stands = new }) (All-nil (IsStanding scope.style)));
      made = All-append (IsLoopOf scope.style) making.made (one ∷ []) made (All-cons (IsLoopOf scope.style) one [] fresh (All-nil (IsLoopOf scope.style)));
      course = refl;
    })

-- the loops that were made for the token may stand in a certificate, where those may that are made
abbrev pub KeepsMade : Make → Scope → Making → Making → Type 0
KeepsMade make scope before after =
    MakesStanding scope.style make → All (IsStanding scope.style) before.made → All (IsStanding scope.style) after.made

-- what a `while$` keeps: a state is followed by what it leaves, and the loops that were made are loops of the style
pub record Whiled (make : Make) (scope : Scope) (room : ℕ) (state : State) (before after : Making) : Type 0 where
  pub moved : Moved scope room state before.course after.course
  pub made : HasMade scope.style after
  pub written : KeepsMade make scope before after

while_known : (make : Make) (scope : Scope) (place : Place) (states earlier : List State) (state : State) (two : Two) (one : While) (making after : Making)
    → Told scope → MakesLoops scope.style make → All (WellMade scope.style) states → IsAmong state states → WellMade scope.style state
    → two_of Func Func state ≡ Ok two → while_of scope state two ≡ Some one → HasMade scope.style making
    → while_made make scope place states earlier (Some one) making ≡ Ok after → Whiled make scope 64 state making after
while_known make scope place states earlier state two one making after told makes all among well e is made ends =
    let found = numbered one (first_number making.course) making.made in
    let entering = entering_with scope one states in
    let known = then_ok (loop_made place found (make one.test one.body entering) making) _ after ends in
    let here : while_in scope state ≡ Some one =
    ap (λ (r : Result Two EffectFault). option_and_then (while_of scope state) (result_ok r)) e ∙ is in
    let loop = loop_known scope place found (make one.test one.body entering) making known.0 (numbered_one scope one (first_number making.course) making.made made)
    (makes one.test one.body entering (some_enter scope one state states here among) (entering_all scope one states all)) made known.1 in
    let used = then_ok (made_used scope place known.0.0 (length (entering_with scope one earlier)) one.rest known.0.1.course) _ after known.2 in
    let left = while_rest (exact_target scope.style state two.lower) (exact_target scope.style state two.upper) two.rest one is in
    let next = ap (λ (s : State). s.next) left ∙ rest_next state two e in
    let follows : Follows scope state one.rest = subst (λ (s : State). Follows scope state s) (sym left) (rest_follows scope state two e well) in
    let moves = made_moved scope place known.0.0 (length (entering_with scope one earlier)) one.rest known.0.1.course used.0 told loop.one follows.made used.1 in
    let named = while_named scope state two one told.sound well is in
    subst (Whiled make scope 64 state making) (sym (ok_is _ after used.2)) (record {
      moved = subst (λ (c : Course). Moved scope 64 state c used.0) loop.course
          (moved_from scope 64 64 state one.rest known.0.1.course used.0 follows (omega (arith, next)) moves);
      made = loop.made;
      written = λ writes loops.
          loop.written (writes one.test one.body entering named.0 named.1
          (some_enter scope one state states here among) (entering_all scope one states all)) loops;
    })

pub while_moved : (make : Make) (scope : Scope) (place : Place) (states earlier : List State) (state : State) (making after : Making) → Told scope
    → MakesLoops scope.style make → All (WellMade scope.style) states → IsAmong state states → WellMade scope.style state → HasMade scope.style making
    → while_taken make scope place states earlier state making ≡ Ok after → Whiled make scope 64 state making after
while_moved make scope place states earlier state making after told makes all among well made e =
    let operands = two_of Func Func state in
    let found = then_ok (placed place operands) (λ two. while_made make scope place states earlier (while_of scope state two) making) after e in
    by_while found.0 (placed_ok place operands found.0 found.1) (while_of scope state found.0) refl found.2
  where
    by_while : (two : Two) → two_of Func Func state ≡ Ok two → (o : Option While) → while_of scope state two ≡ o
        → while_made make scope place states earlier o making ≡ Ok after → Whiled make scope 64 state making after
    by_while two met (Some one) is ends = while_known make scope place states earlier state two one making after told makes all among well met is made ends
    by_while two met None is ends = absurd (cc)

-- no loop is made for a token where none is made
pub making_none : (scope : Scope) (t : Token) → scope.make ≡ None → making_for scope t ≡ None
making_none scope t unmade =
    elim (is_while_token scope.style t) as (λ (b : Bool). cond b scope.make None ≡ None) [ true ↦ unmade | false ↦ refl ]

-- those that were made for a token stand behind the others
pub all_written : (make : Make) (scope : Scope) (making : Making) → scope.make ≡ Some make
    → (MakesStanding scope.style make → All (IsStanding scope.style) [] → All (IsStanding scope.style) making.made)
    → IfSome scope.make (MakesStanding scope.style) → All (IsStanding scope.style) making.course.loops → All (IsStanding scope.style) (all_made making).loops
all_written make scope making by written makes all =
    All-append (IsStanding scope.style) making.course.loops making.made all
    (written (subst (λ (o : Option Make). IfSome o (MakesStanding scope.style)) by makes) (All-nil (IsStanding scope.style)))

-- in one state
pub alone_moved : (make : Make) (scope : Scope) (place : Place) (state : State) (course after : Course) → Told scope → MakesLoops scope.style make
    → scope.make ≡ Some make → WellMade scope.style state → while_alone make scope place state course ≡ Ok after → Moved scope 64 state course after
alone_moved make scope place state course after told makes by well e =
    let mid = then_ok (while_taken make scope place (state ∷ []) [] state (none_made course)) (λ making. Ok (all_made making)) after e in
    let one = while_moved make scope place (state ∷ []) [] state (none_made course) mid.0 told makes
    (All-cons (WellMade scope.style) state [] well (All-nil (WellMade scope.style))) (inl refl) well (All-nil (IsLoopOf scope.style)) mid.1 in
    subst (Moved scope 64 state course) (sym (ok_is (all_made mid.0) after mid.2)) (remade scope 64 state course mid.0.course (all_made mid.0).loops (all_written make scope mid.0 by one.written) one.moved)
