-- What a `while$` that is Ok takes: two exact functions, and a loop of them that a hint names.
use Rattle.std.proofs.Common.{◌≡◌, true, List, [], ◌∷◌, reverse, slice_get, Option, None, Some, Ok, refl, subst}
use Rattle.std.specs.Prelude.{ℕ, ◌&&◌}
use Rattle.std.proofs.lemmas.Bool.{and_parts}
use Rattle.bv_base.specs.declared.place.Place.{Place}
use Rattle.bv_base.proofs.ThenLemmas.{ok_is, then_ok, where_ok}
use Rattle.bst_meaning.specs.declared.value.Target.{Target}
use Rattle.cert_format.specs.declared.cert.Loop.{Loop}
use Rattle.sym_state.specs.State.{State}
use Rattle.sym_state.specs.Demands.{Two, is_of_kind, two_by, two_of}
use Rattle.sym_state.specs.declared.hint.Hint.{Hint}
use Rattle.sym_state.specs.declared.hint.Hint.TheVariants as hint
use Rattle.sym_state.specs.declared.symbol.Kinds.TheVariants.{Func}
use Rattle.sym_state.specs.declared.symbol.Sym.{Sym}
use Rattle.cert_check.specs.Courses.{Course, placed}
use Rattle.cert_check.specs.Walks.{Scope, exact_target, is_target, loop_around, loop_by, loop_of, loop_used, repeated}
use Rattle.cert_check.proofs.Inverted.{placed_ok}

-- the operands of `while$`
pub record TwoMet (state : State) (stack : List Sym) : Type 0 where
  pub test : Sym
  pub body : Sym
  pub rest : List Sym
  pub on_top : stack ≡ body ∷ (test ∷ rest)
  pub lower : is_of_kind state Func test ≡ true
  pub upper : is_of_kind state Func body ≡ true

-- what is left without them
abbrev pub without_two : (state : State) (stack : List Sym) → TwoMet state stack → State
without_two state stack met = record state { stack = reverse met.rest }

-- the operands as the rule has them
abbrev pub two_met : (state : State) (stack : List Sym) → TwoMet state stack → Two
two_met state stack met = record { lower = met.test; upper = met.body; rest = without_two state stack met }

pub two_ok : (state : State) (stack : List Sym) (two : Two) → two_by Func Func stack state ≡ Ok two → (met : TwoMet state stack) × (two ≡ two_met state stack met)
two_ok state [] two e = absurd (cc)
two_ok state (b ∷ []) two e = absurd (cc)
two_ok state (b ∷ (a ∷ rest)) two e =
    let upper = where_ok (is_of_kind state Func b) _ _ two e in
    let lower = where_ok (is_of_kind state Func a) _ _ two upper.1 in
    (record { test = a; body = b; rest = rest; on_top = refl; lower = lower.0; upper = upper.0 }, ok_is _ two lower.1)

-- the next hint names a loop of the two functions, which is used
pub record UsesLoop (scope : Scope) (place : Place) (state : State) (test body : Target) (course after : Course) : Type 0 where
  pub k : ℕ
  pub one : Loop
  pub there : slice_get scope.cert.loops k ≡ Some one
  pub same_test : is_target one.test test ≡ true
  pub same_body : is_target one.body body ≡ true
  pub hints : List Hint
  pub named : course.hints ≡ hint.Loop k ∷ hints
  pub used : loop_used scope place one state (record course { hints = hints }) ≡ Ok after

-- two exact functions are repeated
pub record Repeats (scope : Scope) (place : Place) (state : State) (course after : Course) : Type 0 where
  pub met : TwoMet state (reverse state.stack)
  pub test : Target
  pub body : Target
  pub exact_test : exact_target scope.style state met.test ≡ Some test
  pub exact_body : exact_target scope.style state met.body ≡ Some body
  pub loop : UsesLoop scope place (without_two state (reverse state.stack) met) test body course after

named_ok : (scope : Scope) (place : Place) (state : State) (test body : Target) (k : ℕ) (found : Option Loop) (hints : List Hint) (course after : Course)
    → slice_get scope.cert.loops k ≡ found → course.hints ≡ hint.Loop k ∷ hints
    → loop_of scope place test body found state (record course { hints = hints }) ≡ Ok after → UsesLoop scope place state test body course after
named_ok scope place state test body k None hints course after there is e = absurd (cc)
named_ok scope place state test body k (Some one) hints course after there is e =
    let on = where_ok (is_target one.test test && is_target one.body body) (loop_used scope place one state (record course { hints = hints })) _ after e in
    let both = and_parts (is_target one.test test) (is_target one.body body) on.0 in
    record { k = k; one = one; there = there; same_test = both.0; same_body = both.1; hints = hints; named = is; used = on.1 }

by_hint : (scope : Scope) (place : Place) (state : State) (test body : Target) (hints : List Hint) (course after : Course) → course.hints ≡ hints
    → loop_by scope place test body state course hints ≡ Ok after → UsesLoop scope place state test body course after
by_hint scope place state test body [] course after is e = absurd (cc)
by_hint scope place state test body (hint.Loop k ∷ hints) course after is e =
    named_ok scope place state test body k (slice_get scope.cert.loops k) hints course after refl is e
by_hint scope place state test body (_ ∷ hints) course after is e = absurd (cc)

pub repeated_ok : (scope : Scope) (place : Place) (state : State) (course after : Course) → repeated scope place state course ≡ Ok after
    → Repeats scope place state course after
repeated_ok scope place state course after e =
    let operands = two_of Func Func state in
    let found = then_ok (placed place operands)
    (λ two. loop_around scope place (exact_target scope.style state two.lower) (exact_target scope.style state two.upper) two.rest course) after e in
    let both = two_ok state (reverse state.stack) found.0 (placed_ok place operands found.0 found.1) in
    let met = both.0 in
    by_targets met (exact_target scope.style state met.test) (exact_target scope.style state met.body) refl refl
    (subst (λ (two : Two). loop_around scope place (exact_target scope.style state two.lower) (exact_target scope.style state two.upper) two.rest course ≡ Ok after)
    both.1 found.2)
  where
    by_targets : (met : TwoMet state (reverse state.stack)) (test body : Option Target) → exact_target scope.style state met.test ≡ test
        → exact_target scope.style state met.body ≡ body
        → loop_around scope place test body (without_two state (reverse state.stack) met) course ≡ Ok after → Repeats scope place state course after
    by_targets met (Some test) (Some body) exact_test exact_body e = record {
      met = met;
      test = test;
      body = body;
      exact_test = exact_test;
      exact_body = exact_body;
      loop = by_hint scope place (without_two state (reverse state.stack) met) test body course.hints course after refl e;
    }
    by_targets met (Some test) None exact_test exact_body e = absurd (cc)
    by_targets met None _ exact_test exact_body e = absurd (cc)
