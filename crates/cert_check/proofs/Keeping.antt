-- Rules on one state: each state that they give follows it.
use Rattle.std.proofs.Common.{◌≡◌, ℕ, zero, suc, ◌+◌, ◌*◌, ◌<◌, ◌≤◌, ◌^◌, map, Bool, true, false, List, [], ◌∷◌, ◌++◌, length, slice_get, Option, None, Some, IfSome, Ok, Err, refl, sym, ap, ◌∙◌, subst, arith, inl, inr}
use Rattle.std.specs.List.{All, list_all}
use Rattle.std.specs.Option.{option_and_then, option_map_or, option_or}
use Rattle.std.proofs.lemmas.List.Elements.{All-cons, All-head, All-nil, All-tail, All-weaker}
use Rattle.bv_base.specs.declared.place.Place.{Place}
use Rattle.bv_base.proofs.ThenLemmas.{ok_is, then_ok, where_ok}
use Rattle.name_table.specs.Sound.{IsSound, IsTokenSound, block_of}
use Rattle.name_table.specs.Numbers.{IsByteList}
use Rattle.name_table.specs.declared.builtin.Builtin.{Builtin}
use Rattle.name_table.specs.declared.builtin.Builtin.TheVariants as op
use Rattle.name_table.specs.declared.names.NameId.{NameId}
use Rattle.name_table.specs.declared.style.Style.{Style}
use Rattle.name_table.specs.declared.style.TextId.{TextId}
use Rattle.name_table.specs.declared.style.Token.{Token}
use Rattle.name_table.specs.declared.style.Token.TheVariants as token
use Rattle.name_table.proofs.Within.{got}
use Rattle.bst_meaning.specs.StyleParts.{text_of}
use Rattle.cert_format.specs.declared.cert.Loop.{Loop}
use Rattle.cert_format.specs.declared.cert.Summary.{Summary}
use Rattle.sym_state.specs.State.{State}
use Rattle.sym_state.specs.Cases.{Cases, IsTestOf, split_of}
use Rattle.sym_state.specs.Changes.{bound, symbol_at}
use Rattle.sym_state.specs.Decided.{exact_function, name_of}
use Rattle.sym_state.specs.Demands.{After, HasFewUses}
use Rattle.sym_state.specs.Effects.{effect_of}
use Rattle.sym_state.specs.Fitting.{FactFits}
use Rattle.sym_state.specs.Frames.{Assigns, LeavesVariables}
use Rattle.sym_state.specs.Results.{with_top}
use Rattle.sym_state.specs.Starting.{symbols_of}
use Rattle.sym_state.specs.WellMade.{HasSmallFields, HasSmallLimits, WellMade}
use Rattle.sym_state.specs.declared.hint.Hint.{Hint}
use Rattle.sym_state.specs.declared.hint.Hint.TheVariants as hint
use Rattle.sym_state.specs.declared.piece.Piece.{Piece}
use Rattle.sym_state.specs.declared.symbol.Fact.{Fact}
use Rattle.sym_state.specs.declared.symbol.Kinds.{Kinds}
use Rattle.sym_state.specs.declared.symbol.Kinds.TheVariants.{Int, Str, Func}
use Rattle.sym_state.specs.declared.symbol.Sym.{Sym}
use Rattle.sym_state.specs.declared.test.Test.{Test}
use Rattle.sym_state.specs.declared.test.Test.TheVariants as test
use Rattle.sym_state.proofs.Leaving.{added, moved}
use Rattle.sym_state.proofs.Making.{found_below}
use Rattle.sym_state.proofs.Resulting.{one_fits, result_made, top_made}
use Rattle.builtin_effects.proofs.Framing.{effect_framed}
use Rattle.builtin_effects.proofs.Keeping.{effects_keep}
use Rattle.refinements.proofs.Framing.{split_left}
use Rattle.refinements.proofs.HintsTaken.{hints_keep}
use Rattle.refinements.proofs.Kept.{split_made}
use Rattle.straight_hints.specs.Found.{plain_hints, test_hints}
use Rattle.cert_check.specs.declared.refusal.Refusal.{Refusal}
use Rattle.cert_check.specs.Courses.{Course, behind, counts, gives, gives_all, placed}
use Rattle.cert_check.specs.Certified.{IsCertified, IsLoopOf, IsPieceOf, IsPostOf, IsSummaryOf, MakesLoops}
use Rattle.cert_check.specs.Uses.{Passage, around, comes_by, left_state, passage}
use Rattle.cert_check.specs.Walks.{Come, Scope, comes_by_case, comes_to, confined, entering_nothing, hints_at, hints_of_test, is_within, leaves, literal, literal_state, loop_used, may_write, plain, split, summary_used, test_of, variable, written_by}
use Rattle.cert_check.proofs.Followed.{Follows, Moved, all_given, behind_moved, counted_moved, grows_of, left_follows, one_given, rehinted}
use Rattle.cert_check.proofs.Inverted.{confined_ok, placed_ok}
use Rattle.cert_check.proofs.LeftFew.{left_few}
use Rattle.cert_check.proofs.LeftFollowing.{posts_follow}
use Rattle.cert_check.proofs.Passing.{IsPassed, loop_passed, summary_passed}
use Rattle.cert_check.proofs.ShortHints.{came_keeps, effect_keeps}

-- what walks are taken under
pub record Told (scope : Scope) : Type 0 where
  pub sound : IsSound scope.style
  pub limits : HasSmallLimits scope.cert.cond
  pub fields : HasSmallFields scope.cert.cond
  pub summaries : All (IsSummaryOf scope.style) scope.cert.summaries
  pub loops : All (IsLoopOf scope.style) scope.cert.loops
  pub makes : IfSome scope.make (MakesLoops scope.style)

pub told_by : (scope : Scope) → IsSound scope.style → IsCertified scope.style scope.cert → IfSome scope.make (MakesLoops scope.style) → Told scope
told_by scope sound certified makes = record {
  sound = sound;
  limits = certified.limits;
  fields = certified.fields;
  summaries = certified.summaries;
  loops = certified.loops;
  makes = makes;
}

-- the variable that `:=` binds is one that may be written
written_is : (scope : Scope) (o : Builtin) (old new : State) → o ≡ op.Assign → (a : Assigns scope.style old new)
    → is_within scope.writes (written_by o old) ≡ true → may_write scope.writes a.name ≡ true
written_is scope o old new is a within =
    let first : written_by op.Assign old ≡ Some a.name =
    ap (λ (stack : List Sym). option_and_then (λ s. option_and_then name_of (exact_function old.facts s.0)) (slice_get stack 0)) a.on_top
    ∙ ap (option_and_then name_of) a.named in
    sym (ap (λ (b : Builtin). is_within scope.writes (written_by b old)) is ∙ ap (is_within scope.writes) first) ∙ within

no_such : {X : Type 0} (t : Bool) → t ≡ false → t ≡ true → X
no_such true e f = absurd (cc)
no_such false e f = absurd (cc)

pub effect_follows : (scope : Scope) (state : State) (o : Builtin) (hints : List Hint) (after : After) → Told scope → WellMade scope.style state
    → is_within scope.writes (written_by o state) ≡ true → effect_of scope.style scope.cert.cond state o hints ≡ Ok after → Follows scope state after.state
effect_follows scope state o hints after told made within e =
    let kept = effects_keep scope.style scope.cert.cond state o hints after told.limits made e in
    elim (effect_framed scope.style scope.cert.cond state o hints after made e) [
      | inl left ↦ left_follows scope state after.state kept left
      | inr assigned ↦ record {
        made = kept;
        grows = grows_of state after.state assigned.1.extends;
        vars = λ name not. assigned.1.others name (λ same. no_such (may_write scope.writes name) not
            (ap (λ (n : ℕ). may_write scope.writes (record { 0 = n })) same ∙ written_is scope o state after.state assigned.0 assigned.1 within));
      }
    ]

-- an effect gives one new symbol at most
effect_few : (scope : Scope) (state : State) (o : Builtin) (hints : List Hint) (after : After) → WellMade scope.style state
    → effect_of scope.style scope.cert.cond state o hints ≡ Ok after → after.state.next ≤ state.next + 1
effect_few scope state o hints after made e =
    elim (effect_framed scope.style scope.cert.cond state o hints after made e) [
      | inl left ↦ left.extends.few
      | inr assigned ↦ assigned.1.extends.few
    ]

pub plain_moved : (scope : Scope) (o : Builtin) (place : Place) (state : State) (course after : Course) → Told scope → WellMade scope.style state
    → plain scope o place state course ≡ Ok after → Moved scope 1 state course after
plain_moved scope o place state course after told made e =
    let hints = hints_at scope o state course in
    let effect = confined (is_within scope.writes (written_by o state)) (effect_of scope.style scope.cert.cond state o hints) in
    let mid = then_ok (placed place effect) (λ given. gives place given.state (behind hints given.hints course)) after e in
    let inside = confined_ok (is_within scope.writes (written_by o state)) (effect_of scope.style scope.cert.cond state o hints) mid.0
    (placed_ok place effect mid.0 mid.1) in
    behind_moved scope 1 state course after (λ finding. plain_hints finding scope.style scope.cert.cond state o) mid.0.hints
    (effect_keeps HasFewUses scope.style scope.cert.cond state o hints mid.0 inside.1)
    (one_given scope 1 state mid.0.state place (behind hints mid.0.hints course) after
    (effect_follows scope state o hints mid.0 told made inside.0 inside.1) (effect_few scope state o hints mid.0 made inside.1) mid.2)

all_follow : (scope : Scope) (state : State) (states : List State) → All (WellMade scope.style) states → All (LeavesVariables state) states
    → All (Follows scope state) states
all_follow scope state [] made left = All-nil (Follows scope state)
all_follow scope state (first ∷ states) made left =
    All-cons (Follows scope state) first states
    (left_follows scope state first (All-head (WellMade scope.style) first states made) (All-head (LeavesVariables state) first states left))
    (all_follow scope state states (All-tail (WellMade scope.style) first states made) (All-tail (LeavesVariables state) first states left))

pub split_follow : (scope : Scope) (asked : Test) (state : State) (hints : List Hint) (cases : Cases) → WellMade scope.style state → IsTestOf state asked
    → split_of scope.cert.cond state asked hints ≡ Ok cases → All (Follows scope state) cases.states
split_follow scope asked state hints cases made fits e =
    all_follow scope state cases.states (split_made scope.style scope.cert.cond state asked hints cases made fits e)
    (split_left scope.cert.cond state asked hints cases e)

split_few : (scope : Scope) (asked : Test) (state : State) (hints : List Hint) (cases : Cases) → split_of scope.cert.cond state asked hints ≡ Ok cases
    → All (λ case. case.next ≤ state.next + 1) cases.states
split_few scope asked state hints cases e =
    All-weaker (LeavesVariables state) (λ (case : State). case.next ≤ state.next + 1) (λ case left. left.extends.few) cases.states
    (split_left scope.cert.cond state asked hints cases e)

pub split_moved : (scope : Scope) (asked : Test) (place : Place) (state : State) (course after : Course) → WellMade scope.style state → IsTestOf state asked
    → split scope asked place state course ≡ Ok after → Moved scope 1 state course after
split_moved scope asked place state course after made fits e =
    let hints = hints_of_test scope asked state course in
    let mid = then_ok (placed place (split_of scope.cert.cond state asked hints)) (λ cases. gives_all place cases.states (behind hints cases.hints course))
    after e in
    let cases = placed_ok place (split_of scope.cert.cond state asked hints) mid.0 mid.1 in
    behind_moved scope 1 state course after (λ finding. test_hints finding scope.cert.cond state asked) mid.0.hints
    (hints_keep HasFewUses scope.cert.cond state asked hints mid.0 cases)
    (all_given scope 1 state place mid.0.states (behind hints mid.0.hints course) after
    (split_follow scope asked state hints mid.0 made fits cases) (split_few scope asked state hints mid.0 cases) mid.2)

-- no built-in function is the test of a symbol that is named
pub test_fits : (o : Builtin) (state : State) (asked : Test) → test_of o ≡ Some asked → IsTestOf state asked
test_fits o state (test.Above s) e = no_above o e
  where
    no_above : (b : Builtin) → test_of b ≡ Some (test.Above s) → s.0 < state.next
    no_above op.Empty e = absurd (cc)
    no_above _ e = absurd (cc)
test_fits o state _ e = tt

pub nothing_entered : (scope : Scope) (o : Builtin) (asked : Option Test) (place : Place) (state : State) (course after : Course) → Told scope
    → WellMade scope.style state → test_of o ≡ asked → entering_nothing scope o asked place state course ≡ Ok after → Moved scope 1 state course after
nothing_entered scope o (Some asked) place state course after told made is e = split_moved scope asked place state course after made (test_fits o state asked is) e
nothing_entered scope o None place state course after told made is e = plain_moved scope o place state course after told made e

-- the symbol of a variable or a field is the state's
pub bound_below : (style : Style) (name : NameId) (state : State) (s : Sym) → WellMade style state → bound name state ≡ Some s → s.0 < state.next
bound_below style name state s made e =
    elim (symbol_at name state.vars) as (λ (o : Option Sym). symbol_at name state.vars ≡ o → option_or o (symbol_at name state.fields) ≡ Some s → s.0 < state.next) [
      | Some there ↦ λ is found. found_below state.next name state.vars s made.vars (is ∙ found)
      | None ↦ λ is found. found_below state.next name state.fields s made.fields found
    ] refl e

pub top_follows : (scope : Scope) (state : State) (s : Sym) → WellMade scope.style state → s.0 < state.next → Follows scope state (with_top s state)
top_follows scope state s made below =
    left_follows scope state (with_top s state) (top_made scope.style state s made below) (moved state (state.stack ++ s ∷ []))

pub variable_moved : (scope : Scope) (name : NameId) (place : Place) (state : State) (course after : Course) → WellMade scope.style state
    → variable name place state course ≡ Ok after → Moved scope 0 state course after
variable_moved scope name place state course after made e = by_bound (bound name state) _ refl e
  where
    by_bound : (o : Option Sym) (refusal : Refusal) → bound name state ≡ o → option_map_or (λ s. gives place (with_top s state) course) o (Err refusal) ≡ Ok after
        → Moved scope 0 state course after
    by_bound (Some s) refusal is found =
        one_given scope 0 state (with_top s state) place course after (top_follows scope state s made (bound_below scope.style name state s made is)) (omega arith) found
    by_bound None refusal is found = absurd (cc)

-- literals
literal_follows : (scope : Scope) (kind : Kinds) (said : Fact) (state : State) → WellMade scope.style state → FactFits scope.style (state.next + 1) said
    → Follows scope state (literal kind said state)
literal_follows scope kind said state made f =
    let fits = one_fits scope.style (state.next + 1) said f.below f.of_style f.integer f.bytes f.short in
    left_follows scope state (literal kind said state) (result_made scope.style state kind (said ∷ []) [] made fits)
    (added state _ _ _ _ (omega arith) (omega arith))

pub of_text : (P : List ℕ → Type 0) (o : Option (List ℕ)) → IfSome o P → P [] → P (option_map_or (λ bytes. bytes) o [])
of_text P (Some bytes) h none = h
of_text P None h none = none

pub number_is : (style : Style) (o : Option (Option ℕ)) (number : ℕ) → o ≡ Some (Some number)
    → option_map_or (λ found. option_map_or (λ n. n) found 0) o 0 ≡ number
number_is style o number e = ap (λ (p : Option (Option ℕ)). option_map_or (λ found. option_map_or (λ n. n) found 0) p 0) e

pub token_follows : (scope : Scope) (t : Token) (state : State) → Told scope → WellMade scope.style state
    → IsTokenSound scope.style.names scope.style.bodies scope.style.texts t → Follows scope state (literal_state scope.style t state)
token_follows scope (token.Int n) state told made sound =
    literal_follows scope Int _ state made (record { below = omega arith; of_style = tt; integer = sound; bytes = tt; short = tt })
token_follows scope (token.Str text) state told made sound =
    literal_follows scope Str _ state made (record {
      below = omega arith;
      of_style = tt;
      integer = tt;
      bytes = of_text IsByteList (slice_get scope.style.texts text.0) (got IsByteList scope.style.texts text.0 told.sound.byte_texts) tt;
      short = short_text scope.style text told.sound;
    })
  where
    short_text : (style : Style) (id : TextId) → IsSound style → length (text_of style id) ≤ 2 ^ 45
    short_text style id sound =
        let few = of_text (λ (bytes : List ℕ). length bytes ≤ 4194304) (slice_get style.texts id.0)
        (got (λ (bytes : List ℕ). length bytes ≤ 4194304) style.texts id.0 sound.short_texts) (omega arith) in
        omega (arith, few)
token_follows scope (token.Quote name) state told made sound =
    literal_follows scope Func _ state made (record { below = omega arith; of_style = sound; integer = tt; bytes = tt; short = tt })
token_follows scope (token.Block body) state told made sound =
    let numbered = sound.1 ∙ ap (λ (n : ℕ). Some (Some n)) (sym (number_is scope.style (block_of body scope.style.bodies) sound.0 sound.1)) in
    literal_follows scope Func _ state made (record { below = omega arith; of_style = (body, numbered); integer = tt; bytes = tt; short = tt })
token_follows scope (token.Call name) state told made sound =
    left_follows scope state state made (moved state state.stack)

-- a literal is one new symbol
pub token_few : (scope : Scope) (t : Token) (state : State) → (literal_state scope.style t state).next ≤ state.next + 1
token_few scope (token.Int n) state = omega arith
token_few scope (token.Str text) state = omega arith
token_few scope (token.Quote name) state = omega arith
token_few scope (token.Block body) state = omega arith
token_few scope (token.Call name) state = omega arith

-- an element that is there
pub element : {X : Type 0} (P : X → Type 0) (xs : List X) (k : ℕ) (x : X) → All P xs → slice_get xs k ≡ Some x → P x
element P [] k x all e = absurd (cc)
element P (y ∷ xs) zero x all e = let same : y ≡ x = cc in subst P same (All-head P y xs all)
element P (y ∷ xs) (suc k) x all e = element P xs k x (All-tail P y xs all) e

-- a summary is used
left_all : {X : Type 0} (P : State → Type 0) (f : X → State) (xs : List X) → All (λ x. P (f x)) xs → All P (map f xs)
left_all P f [] all = All-nil P
left_all {X} P f (x ∷ xs) all =
    All-cons P (f x) (map f xs) (All-head (λ (y : X). P (f y)) x xs all) (left_all P f xs (All-tail (λ (y : X). P (f y)) x xs all))

-- each of its posts gives few new symbols
posts_few : (scope : Scope) (unit : Passage) (kept : ℕ) (pre : Piece) (posts : List Piece) (state : State) (hints left : List Hint)
    → IsPassed scope.style unit kept pre posts → WellMade scope.style state → comes_by unit scope.cert.cond pre state hints ≡ Ok left
    → All (λ post. (left_state scope.style scope.cert.cond unit pre kept state post).next ≤ state.next + (64 + 65 * length unit.writes)) posts
posts_few scope unit kept pre posts state hints left is made came =
    All-weaker (IsPostOf scope.style unit kept)
    (λ post. (left_state scope.style scope.cert.cond unit pre kept state post).next ≤ state.next + (64 + 65 * length unit.writes))
    (λ post one.
    let few = left_few scope.style scope.cert.cond unit pre post kept state hints left made one.placed came in
    let short = one.short.stack in
    omega (arith, few, short)) posts is.each

-- what is left by a unit that a state came to
pub leaves_moved : (scope : Scope) (place : Place) (unit : Passage) (kept : ℕ) (pre : Piece) (posts : List Piece) (state : State) (hints left : List Hint)
    (course after : Course) → Told scope → IsPassed scope.style unit kept pre posts → WellMade scope.style state
    → comes_by unit scope.cert.cond pre state hints ≡ Ok left → leaves scope place unit pre posts kept state course ≡ Ok after
    → Moved scope 64 state course after
leaves_moved scope place unit kept pre posts state hints left course after told is made came e =
    let may = where_ok (list_all (may_write scope.writes) unit.writes) _ _ after e in
    let counted = then_ok (counts (length unit.writes) place course) _ after may.1 in
    let post : Piece → State = left_state scope.style scope.cert.cond unit pre kept state in
    counted_moved scope (length unit.writes) 64 state place course counted.0 after counted.1
    (all_given scope (64 + 65 * length unit.writes) state place (map post posts) counted.0 after
    (left_all (Follows scope state) post posts (posts_follow scope unit kept pre posts state hints left told.fields is made came may.0))
    (left_all (λ one. one.next ≤ state.next + (64 + 65 * length unit.writes)) post posts
    (posts_few scope unit kept pre posts state hints left is made came)) counted.2)

pub used_moved : (scope : Scope) (place : Place) (summary : Summary) (state : State) (course after : Course) → Told scope → IsSummaryOf scope.style summary
    → WellMade scope.style state → summary_used scope place summary state course ≡ Ok after → Moved scope 64 state course after
used_moved scope place summary state course after told is made e =
    let kept = symbols_of summary.pre in
    let shown = comes_by (passage summary) scope.cert.cond summary.pre state course.hints in
    let mid = then_ok (placed place shown) (λ hints. leaves scope place (passage summary) summary.pre summary.posts kept state (record course { hints = hints })) after e in
    let came = placed_ok place shown mid.0 mid.1 in
    rehinted scope 64 state course after mid.0 (came_keeps HasFewUses (passage summary) scope.cert.cond summary.pre state course.hints mid.0 came)
    (leaves_moved scope place (passage summary) kept summary.pre summary.posts state course.hints mid.0 (record course { hints = mid.0 }) after told
    (summary_passed scope.style summary is) made came mid.2)

-- a state that comes to a loop does so by a case, with the hints behind its number
pub record CameBy (scope : Scope) (one : Loop) (state : State) (before : List Hint) (come : Come) : Type 0 where
  pub k : ℕ
  pub there : slice_get one.cases k ≡ Some come.case
  pub hints : List Hint
  pub numbered : before ≡ hint.Case k ∷ hints
  pub came : comes_by (around one) scope.cert.cond come.case state hints ≡ Ok come.hints

pub comes_to_ok : (scope : Scope) (one : Loop) (state : State) (hints : List Hint) (come : Come)
    → comes_to (around one) scope.cert.cond one.cases state hints ≡ Ok come → CameBy scope one state hints come
comes_to_ok scope one state [] come e = absurd (cc)
comes_to_ok scope one state (hint.Case k ∷ hints) come e = by_case (slice_get one.cases k) refl e
  where
    by_case : (found : Option Piece) → slice_get one.cases k ≡ found → comes_by_case (around one) scope.cert.cond found state hints ≡ Ok come
        → CameBy scope one state (hint.Case k ∷ hints) come
    by_case None is e = absurd (cc)
    by_case (Some case) is e =
        let left = then_ok (comes_by (around one) scope.cert.cond case state hints) (λ left. Ok (record { case = case; hints = left })) come e in
        subst (CameBy scope one state (hint.Case k ∷ hints)) (sym (ok_is (record { case = case; hints = left.0 }) come left.2))
        (record { k = k; there = is; hints = hints; numbered = refl; came = left.1 })
comes_to_ok scope one state (_ ∷ hints) come e = absurd (cc)

-- a loop is used
pub loop_moved : (scope : Scope) (place : Place) (one : Loop) (state : State) (course after : Course) → Told scope → IsLoopOf scope.style one
    → WellMade scope.style state → loop_used scope place one state course ≡ Ok after → Moved scope 64 state course after
loop_moved scope place one state course after told is made e =
    let found = comes_to (around one) scope.cert.cond one.cases state course.hints in
    let mid = then_ok (placed place found) (λ come. leaves scope place (around one) come.case one.exits 0 state (record course { hints = come.hints })) after e in
    let by = comes_to_ok scope one state course.hints mid.0 (placed_ok place found mid.0 mid.1) in
    let case = element (IsPieceOf scope.style one.entry) one.cases by.k mid.0.case is.cases by.there in
    rehinted scope 64 state course after mid.0.hints
    (λ short. came_keeps HasFewUses (around one) scope.cert.cond mid.0.case state by.hints mid.0.hints by.came
    (All-tail HasFewUses (hint.Case by.k) by.hints (subst (All HasFewUses) by.numbered short)))
    (leaves_moved scope place (around one) 0 mid.0.case one.exits state by.hints mid.0.hints (record course { hints = mid.0.hints }) after told
    (loop_passed scope.style one mid.0.case is case) made by.came mid.2)
