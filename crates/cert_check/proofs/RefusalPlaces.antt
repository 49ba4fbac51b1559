-- A rule that fails does so at its own place, or at one of a body that it walks.
use Rattle.cert_check.specs.declared.limits.TheConstants.{MOST_LOOPS}
use Rattle.std.proofs.Common.{◌≡◌, ℕ, zero, suc, ◌+◌, ◌⊎◌, Bool, true, false, cond, List, [], ◌∷◌, ◌++◌, length, map, reverse, Option, None, Some, Result, Ok, Err, refl, sym, subst, inl, inr, arith, nat_lt}
use Rattle.std.specs.Prelude.{◌&&◌, IfErr, IfSome, slice_get}
use Rattle.std.specs.List.{list_all}
use Rattle.std.specs.Option.{option_map_or}
use Rattle.bv_base.specs.Places.{StandsIn}
use Rattle.bv_base.specs.declared.place.Place.{Place}
use Rattle.bv_base.specs.Answers.{then_do}
use Rattle.bv_base.proofs.ThenLemmas.{then_faulty}
use Rattle.name_table.specs.Sound.{Each}
use Rattle.name_table.specs.declared.builtin.Builtin.{Builtin}
use Rattle.name_table.specs.declared.builtin.Builtin.TheVariants as op
use Rattle.name_table.specs.declared.names.Kind.{Kind}
use Rattle.name_table.specs.declared.names.Kind.TheVariants as kind
use Rattle.name_table.specs.declared.names.NameId.{NameId}
use Rattle.name_table.specs.declared.style.Body.{Body}
use Rattle.name_table.specs.declared.style.BodyId.{BodyId}
use Rattle.name_table.specs.declared.style.Style.{Style}
use Rattle.name_table.specs.declared.style.Token.{Token}
use Rattle.name_table.specs.declared.style.Token.TheVariants as token
use Rattle.name_table.specs.declared.style.TokenAt.{TokenAt}
use Rattle.name_table.proofs.Within.{got}
use Rattle.bst_meaning.specs.StyleParts.{kind_of, tokens_of}
use Rattle.bst_meaning.specs.declared.condition.Cond.{Cond}
use Rattle.bst_meaning.specs.declared.value.Target.{Target}
use Rattle.bst_meaning.specs.declared.value.Target.TheVariants.{Named, Block}
use Rattle.cert_format.specs.declared.cert.Cert.{Cert}
use Rattle.cert_format.specs.declared.cert.Loop.{Loop}
use Rattle.cert_format.specs.declared.cert.Summary.{Summary}
use Rattle.sym_state.specs.State.{State}
use Rattle.sym_state.specs.Cases.{above_of, split_of}
use Rattle.sym_state.specs.Changes.{bound}
use Rattle.sym_state.specs.Demands.{Three, one_of, three_by, two_of}
use Rattle.sym_state.specs.Effects.{effect_of}
use Rattle.sym_state.specs.Results.{with_top}
use Rattle.sym_state.specs.Starting.{started, symbols_of}
use Rattle.sym_state.specs.declared.demand.EffectFault.{EffectFault}
use Rattle.sym_state.specs.declared.hint.Hint.{Hint}
use Rattle.sym_state.specs.declared.hint.Hint.TheVariants as hint
use Rattle.sym_state.specs.declared.piece.Piece.{Piece}
use Rattle.sym_state.specs.declared.symbol.Kinds.TheVariants.{Int, Func}
use Rattle.sym_state.specs.declared.symbol.Sym.{Sym}
use Rattle.sym_state.specs.declared.test.Test.{Test}
use Rattle.cert_check.proofs.ReadPieces.{each_each}
use Rattle.cert_check.specs.declared.limits.TheConstants.{MOST_DEPTH}
use Rattle.cert_check.specs.declared.refusal.Reason.{Reason}
use Rattle.cert_check.specs.declared.refusal.Refusal.{Refusal}
use Rattle.cert_check.specs.Courses.{Course, Walk, behind, counts, first_number, gives, gives_all, placed, refuses}
use Rattle.cert_check.specs.Places.{IsOfBody, IsOfUnit}
use Rattle.cert_check.specs.Units.{all_end, all_entail, all_tested, all_turned, beginning, body_of, call_walked, loop_checked, none_left, own_walked, place_of, summary_checked, target_entered, target_from, tested, turn, turn_state, turned, turned_from}
use Rattle.cert_check.specs.Uses.{Passage, around, comes_by, left_state, passage}
use Rattle.cert_check.specs.Walks.{Call, Enter, Make, Making, Numbered, Onward, Scope, While, all_made, body_walked, built_in, cases_entered, choice, chosen, chosen_in, comes_to, coming_hints, confined, each_taken, entered, entered_by, entering, entering_nothing, entering_with, exact_target, function_entered, has_summary, hints_at, hints_of_choice, hints_of_test, if_else, is_target, is_within, is_wizard, leaves, literal_state, loop_around, loop_by, loop_made, loop_of, loop_used, made_used, making_for, may_write, name_entered, named, next_number, none_made, numbered, plain, repeated, split, summary_used, taken, taken_by, taken_from, test_of, token_taken, type_called, type_functions, type_walked, types_called, use_of, variable, walked, while_alone, while_by_make, while_made, while_of, while_taken, whiles_taken, written_by}

module _ (P : Place → Type 0) where
  -- such a place is that of the refusal, where there is one
  abbrev FailsAt : Refusal → Type 0
  FailsAt refusal = P refusal.place

  abbrev Fails : {X : Type 0} → Result X Refusal → Type 0
  Fails result = IfErr result FailsAt

  -- a way on fails at such a place alone
  abbrev OnwardFails : Onward → Type 0
  OnwardFails walk = (state : State) (course : Course) → Fails (walk state course)

  abbrev EnterFails : Enter → Type 0
  EnterFails enter = (place : Place) (body : BodyId) → P place → OnwardFails (enter place body)

  abbrev CallFails : Call → Type 0
  CallFails call = (name : NameId) → OnwardFails (call name)

  where_fails : {X : Type 0} (t : Bool) (place : Place) (reason : Reason) (r : Result X Refusal) → P place → Fails r → Fails (cond t r (refuses place reason))
  where_fails true place reason r at fails = fails
  where_fails false place reason r at fails = at

  pub placed_fails : {X : Type 0} (place : Place) (r : Result X EffectFault) → P place → Fails (placed place r)
  placed_fails place (Ok x) at = tt
  placed_fails place (Err fault) at = at

  counts_fails : (n : ℕ) (place : Place) (course : Course) → P place → Fails (counts n place course)
  counts_fails n place course at = where_fails _ place _ (Ok (record course { count = course.count + n })) at tt

  gives_fails : (place : Place) (state : State) (course : Course) → P place → Fails (gives place state course)
  gives_fails place state course at = where_fails _ place _ (Ok (record course { given = course.given ++ state ∷ [] })) at tt

  -- rules that are taken one after the other, each of which fails at such a place alone
  in_order_fail : {X : Type 0} (rule : X → Course → Walk) (all : List X → Course → Walk) → ((course : Course) → all [] course ≡ Ok course)
      → ((x : X) (xs : List X) (course : Course) → all (x ∷ xs) course ≡ then_do (rule x course) (all xs))
      → ((x : X) (course : Course) → Fails (rule x course)) → (xs : List X) (course : Course) → Fails (all xs course)
  in_order_fail rule all none more fails [] course = subst (λ (r : Walk). Fails r) (sym (none course)) tt
  in_order_fail rule all none more fails (x ∷ xs) course =
      subst (λ (r : Walk). Fails r) (sym (more x xs course))
      (then_faulty FailsAt (rule x course) (all xs) (fails x course) (λ after _. in_order_fail rule all none more fails xs after))

  gives_all_fails : (place : Place) (states : List State) (course : Course) → P place → Fails (gives_all place states course)
  gives_all_fails place states course at =
      in_order_fail (gives place) (gives_all place) (λ course. refl) (λ state states course. refl) (λ state course. gives_fails place state course at)
      states course

  -- rules that enter nothing
  plain_fails : (scope : Scope) (o : Builtin) (place : Place) (state : State) (course : Course) → P place → Fails (plain scope o place state course)
  plain_fails scope o place state course at =
      let hints = hints_at scope o state course in
      let effect = confined (is_within scope.writes (written_by o state)) (effect_of scope.style scope.cert.cond state o hints) in
      then_faulty FailsAt (placed place effect) (λ after. gives place after.state (behind hints after.hints course)) (placed_fails place effect at)
      (λ after _. gives_fails place after.state (behind hints after.hints course) at)

  split_fails : (scope : Scope) (asked : Test) (place : Place) (state : State) (course : Course) → P place → Fails (split scope asked place state course)
  split_fails scope asked place state course at =
      let hints = hints_of_test scope asked state course in
      let cases = split_of scope.cert.cond state asked hints in
      then_faulty FailsAt (placed place cases) (λ found. gives_all place found.states (behind hints found.hints course)) (placed_fails place cases at)
      (λ found _. gives_all_fails place found.states (behind hints found.hints course) at)

  variable_fails : (name : NameId) (place : Place) (state : State) (course : Course) → P place → Fails (variable name place state course)
  variable_fails name place state course at = by_bound (bound name state) _
    where
      by_bound : (o : Option Sym) (reason : Reason) → Fails (option_map_or (λ s. gives place (with_top s state) course) o (refuses place reason))
      by_bound (Some s) reason = gives_fails place (with_top s state) course at
      by_bound None reason = at

  nothing_fails : (scope : Scope) (o : Builtin) (asked : Option Test) (place : Place) (state : State) (course : Course) → P place
      → Fails (entering_nothing scope o asked place state course)
  nothing_fails scope o (Some asked) place state course at = split_fails scope asked place state course at
  nothing_fails scope o None place state course at = plain_fails scope o place state course at

  -- the use of a summary
  leaves_fails : (scope : Scope) (place : Place) (unit : Passage) (pre : Piece) (posts : List Piece) (kept : ℕ) (state : State) (course : Course) → P place
      → Fails (leaves scope place unit pre posts kept state course)
  leaves_fails scope place unit pre posts kept state course at =
      let states = map (left_state scope.style scope.cert.cond unit pre kept state) posts in
      where_fails (list_all (may_write scope.writes) unit.writes) place _ _ at
      (then_faulty FailsAt (counts (length unit.writes) place course) (gives_all place states) (counts_fails (length unit.writes) place course at)
      (λ after _. gives_all_fails place states after at))

  used_fails : (scope : Scope) (place : Place) (summary : Summary) (state : State) (course : Course) → P place
      → Fails (summary_used scope place summary state course)
  used_fails scope place summary state course at =
      let shown = comes_by (passage summary) scope.cert.cond summary.pre state course.hints in
      then_faulty FailsAt (placed place shown)
      (λ hints. leaves scope place (passage summary) summary.pre summary.posts (symbols_of summary.pre) state (record course { hints = hints }))
      (placed_fails place shown at)
      (λ hints _. leaves_fails scope place (passage summary) summary.pre summary.posts (symbols_of summary.pre) state (record course { hints = hints }) at)

  use_fails : (scope : Scope) (place : Place) (target : Target) (found : Option Summary) (state : State) (course : Course) → P place
      → Fails (use_of scope place target found state course)
  use_fails scope place target None state course at = at
  use_fails scope place target (Some summary) state course at =
      where_fails (is_target summary.body target) place _ (summary_used scope place summary state course) at (used_fails scope place summary state course at)

  hint_fails : (scope : Scope) (place : Place) (target : Target) (walk : Onward) (state : State) (course : Course) (hints : List Hint) → P place
      → OnwardFails walk → Fails (entered_by scope place target walk state course hints)
  hint_fails scope place target walk state course [] at walks = at
  hint_fails scope place target walk state course (hint.Apply k ∷ hints) at walks =
      use_fails scope place target (slice_get scope.cert.summaries k) state (record course { hints = hints }) at
  hint_fails scope place target walk state course (hint.Walk ∷ hints) at walks = walks state (record course { hints = hints })
  hint_fails scope place target walk state course (_ ∷ hints) at walks = at

  entered_fails : (scope : Scope) (place : Place) (target : Target) (walk : Onward) → P place → OnwardFails walk → OnwardFails (entered scope place target walk)
  entered_fails scope place target walk at walks state course =
      elim (has_summary scope.cert target) as (λ (t : Bool). Fails (cond t (entered_by scope place target walk state course course.hints) (walk state course))) [
        | true ↦ hint_fails scope place target walk state course course.hints at walks
        | false ↦ walks state course
      ]

  -- `if$`
  function_fails : (scope : Scope) (enter : Enter) (call : Call) (place : Place) (target : Option Target) → P place → EnterFails enter → CallFails call
      → OnwardFails (function_entered scope enter call place target)
  function_fails scope enter call place None at enters calls state course = at
  function_fails scope enter call place (Some (Named name)) at enters calls state course = calls name state course
  function_fails scope enter call place (Some (Block body)) at enters calls state course =
      entered_fails scope place (Block body) (enter place body) at (enters place body at) state course

  cases_fail : (scope : Scope) (enter : Enter) (call : Call) (place : Place) (three : Three) (cases : List (Bool × State)) (course : Course) → P place
      → EnterFails enter → CallFails call → Fails (cases_entered scope enter call place three cases course)
  cases_fail scope enter call place three cases course at enters calls =
      let target : Bool × State → Option Target = λ case. exact_target scope.style case.1 (cond case.0 three.middle three.top) in
      in_order_fail (λ (case : Bool × State). function_entered scope enter call place (target case) case.1) (cases_entered scope enter call place three)
      (λ course. refl) (λ case cases course. refl) (λ case course. function_fails scope enter call place (target case) at enters calls case.1 course) cases course

  chosen_fails : (scope : Scope) (enter : Enter) (call : Call) (place : Place) (stack : List Sym) → P place → EnterFails enter → CallFails call
      → OnwardFails (chosen scope enter call place stack)
  chosen_fails scope enter call place stack at enters calls state course =
      let operands = three_by Int Func Func stack state in
      then_faulty FailsAt (placed place operands) (λ three. choice scope enter call place three course) (placed_fails place operands at) (λ three _.
      let hints = hints_of_choice scope three course in
      let weighed = above_of scope.cert.cond three.rest three.lowest hints in
      then_faulty FailsAt (placed place weighed) (λ labelled. cases_entered scope enter call place three labelled.cases (behind hints labelled.hints course))
      (placed_fails place weighed at) (λ labelled _.
      cases_fail scope enter call place three labelled.cases (behind hints labelled.hints course) at enters calls))

  -- `while$`
  came_fails : (scope : Scope) (place : Place) (one : Loop) → P place → OnwardFails (loop_used scope place one)
  came_fails scope place one at state course =
      let found = comes_to (around one) scope.cert.cond one.cases state course.hints in
      then_faulty FailsAt (placed place found) (λ come. leaves scope place (around one) come.case one.exits 0 state (record course { hints = come.hints }))
      (placed_fails place found at)
      (λ come _. leaves_fails scope place (around one) come.case one.exits 0 state (record course { hints = come.hints }) at)

  loop_fails : (scope : Scope) (place : Place) (test body : Target) (found : Option Loop) → P place → OnwardFails (loop_of scope place test body found)
  loop_fails scope place test body None at state course = at
  loop_fails scope place test body (Some one) at state course =
      where_fails (is_target one.test test && is_target one.body body) place _ (loop_used scope place one state course) at (came_fails scope place one at state course)

  loop_by_fails : (scope : Scope) (place : Place) (test body : Target) (state : State) (course : Course) (hints : List Hint) → P place
      → Fails (loop_by scope place test body state course hints)
  loop_by_fails scope place test body state course [] at = at
  loop_by_fails scope place test body state course (hint.Loop k ∷ hints) at =
      loop_fails scope place test body (slice_get scope.cert.loops k) at state (record course { hints = hints })
  loop_by_fails scope place test body state course (_ ∷ hints) at = at

  around_fails : (scope : Scope) (place : Place) (test body : Option Target) → P place → OnwardFails (loop_around scope place test body)
  around_fails scope place (Some test) (Some body) at state course = loop_by_fails scope place test body state course course.hints at
  around_fails scope place (Some test) None at state course = at
  around_fails scope place None body at state course = at

  repeated_fails : (scope : Scope) (place : Place) → P place → OnwardFails (repeated scope place)
  repeated_fails scope place at state course =
      then_faulty FailsAt (placed place (two_of Func Func state))
      (λ two. loop_around scope place (exact_target scope.style state two.lower) (exact_target scope.style state two.upper) two.rest course)
      (placed_fails place (two_of Func Func state) at)
      (λ two _. around_fails scope place (exact_target scope.style state two.lower) (exact_target scope.style state two.upper) at two.rest course)

  -- a loop that is made
  made_fails : (place : Place) (found : Option Numbered) (new : Option Loop) (making : Making) → P place → Fails (loop_made place found new making)
  made_fails place (Some found) new making at = tt
  made_fails place None None making at = at
  made_fails place None (Some one) making at = where_fails (nat_lt (next_number making) MOST_LOOPS) place _ (Ok _) at tt

  made_used_fails : (scope : Scope) (place : Place) (found : Numbered) (k : ℕ) → P place → OnwardFails (made_used scope place found k)
  made_used_fails scope place found k at state course =
      let hints = coming_hints scope.cert.cond state k found in
      let come = comes_to (around found.one) scope.cert.cond found.one.cases state hints in
      let all : List Hint = course.found ++ hint.Loop found.number ∷ hints in
      then_faulty FailsAt (placed place come) (λ come. leaves scope place (around found.one) come.case found.one.exits 0 state (record course { found = all }))
      (placed_fails place come at) (λ come _. leaves_fails scope place (around found.one) come.case found.one.exits 0 state (record course { found = all }) at)

  around_made_fails : (make : Make) (scope : Scope) (place : Place) (states earlier : List State) (one : Option While) (making : Making) → P place
      → Fails (while_made make scope place states earlier one making)
  around_made_fails make scope place states earlier None making at = at
  around_made_fails make scope place states earlier (Some one) making at =
      let found = numbered one (first_number making.course) making.made in
      let new = make one.test one.body (entering_with scope one states) in
      let k = length (entering_with scope one earlier) in
      then_faulty FailsAt (loop_made place found new making) _ (made_fails place found new making at) (λ known _.
      then_faulty FailsAt (made_used scope place known.0 k one.rest known.1.course) (λ course. Ok (record known.1 { course = course }))
      (made_used_fails scope place known.0 k at one.rest known.1.course) (λ course _. tt))

  while_taken_fails : (make : Make) (scope : Scope) (place : Place) (states earlier : List State) (state : State) (making : Making) → P place
      → Fails (while_taken make scope place states earlier state making)
  while_taken_fails make scope place states earlier state making at =
      then_faulty FailsAt (placed place (two_of Func Func state)) (λ two. while_made make scope place states earlier (while_of scope state two) making)
      (placed_fails place (two_of Func Func state) at) (λ two _. around_made_fails make scope place states earlier (while_of scope state two) making at)

  alone_fails : (make : Make) (scope : Scope) (place : Place) (state : State) (course : Course) → P place → Fails (while_alone make scope place state course)
  alone_fails make scope place state course at =
      then_faulty FailsAt (while_taken make scope place (state ∷ []) [] state (none_made course)) (λ making. Ok (all_made making))
      (while_taken_fails make scope place (state ∷ []) [] state (none_made course) at) (λ making _. tt)

  whiles_fail : (make : Make) (scope : Scope) (place : Place) (states earlier later : List State) (making : Making) → P place
      → Fails (whiles_taken make scope place states earlier later making)
  whiles_fail make scope place states earlier [] making at = tt
  whiles_fail make scope place states earlier (state ∷ later) making at =
      then_faulty FailsAt (counts 1 place making.course) _ (counts_fails 1 place making.course at) (λ course _.
      then_faulty FailsAt (while_taken make scope place states earlier state (record making { course = course }))
      (whiles_taken make scope place states (earlier ++ state ∷ []) later)
      (while_taken_fails make scope place states earlier state (record making { course = course }) at)
      (λ after _. whiles_fail make scope place states (earlier ++ state ∷ []) later after at))

  -- `call.type$`
  type_walk_fails : (enter : Enter) (found : Option Kind) (place : Place) → P place → EnterFails enter → OnwardFails (type_walked enter found place)
  type_walk_fails enter (Some (kind.Wizard body)) place at enters state course = enters place body at state course
  type_walk_fails enter _ place at enters state course = gives_fails place state course at

  types_fail : (scope : Scope) (enter : Enter) (place : Place) (names : List NameId) → P place → EnterFails enter
      → OnwardFails (types_called scope enter place names)
  types_fail scope enter place names at enters state =
      let walk : NameId → Onward = λ name. type_walked enter (kind_of scope.style name) place in
      in_order_fail (λ (name : NameId). type_called scope enter place name state) (λ (names : List NameId). types_called scope enter place names state)
      (λ course. refl) (λ name names course. refl)
      (λ name course. then_faulty FailsAt (counts 1 place course) (entered scope place (Named name) (walk name) state) (counts_fails 1 place course at)
      (λ after _. entered_fails scope place (Named name) (walk name) at (type_walk_fails enter (kind_of scope.style name) place at enters) state after)) names

  -- names
  built_in_fails : (scope : Scope) (enter : Enter) (other : Onward) (o : Builtin) (place : Place) → P place → EnterFails enter → OnwardFails other
      → OnwardFails (built_in scope enter other o place)
  built_in_fails scope enter other op.IfElse place at enters others state course = others state course
  built_in_fails scope enter other op.WhileDo place at enters others state course = by_make scope.make
    where
      by_make : (make : Option Make) → Fails (while_by_make make scope place state course)
      by_make None = repeated_fails scope place at state course
      by_make (Some make) = alone_fails make scope place state course at
  built_in_fails scope enter other op.CallType place at enters others state course =
      where_fails state.at_entry place _ _ at (types_fail scope enter place (type_functions scope.style scope.cert.cond) at enters state course)
  built_in_fails scope enter other o place at enters others state course = nothing_fails scope o (test_of o) place state course at

  named_fails : (scope : Scope) (enter : Enter) (other : Onward) (found : Option Kind) (name : NameId) (place : Place) → P place → EnterFails enter
      → OnwardFails other → OnwardFails (named scope enter other found name place)
  named_fails scope enter other (Some (kind.Builtin o)) name place at enters others state course = built_in_fails scope enter other o place at enters others state course
  named_fails scope enter other (Some (kind.Wizard body)) name place at enters others state course =
      entered_fails scope place (Named name) (enter place body) at (enters place body at) state course
  named_fails scope enter other _ name place at enters others state course = variable_fails name place state course at

  entering_fails : (scope : Scope) (call : Onward) (found : Option Kind) (name : NameId) (place : Place) → P place → OnwardFails call
      → OnwardFails (entering scope call found name place)
  entering_fails scope call found name place at calls state course =
      elim (is_wizard found) as (λ (t : Bool). Fails (cond t (call state course) (entered scope place (Named name) call state course))) [
        | true ↦ calls state course
        | false ↦ entered_fails scope place (Named name) call at calls state course
      ]

  name_fails : (scope : Scope) (enter : Enter) (other : Onward) (place : Place) → P place → EnterFails enter → OnwardFails other
      → CallFails (name_entered scope enter other place)
  name_fails scope enter other place at enters others name state course =
      let found = kind_of scope.style name in
      let call = named scope enter other found name place in
      then_faulty FailsAt (counts 1 place course) (entering scope call found name place state) (counts_fails 1 place course at)
      (λ after _. entering_fails scope call found name place at (named_fails scope enter other found name place at enters others) state after)

  none_fail : CallFails (λ name state course. Ok course)
  none_fail name state course = tt

  if_else_fails : (scope : Scope) (enter : Enter) (place : Place) (stack : List Sym) → P place → EnterFails enter → OnwardFails (if_else scope enter place stack)
  if_else_fails scope enter place [] at enters state course = chosen_fails scope enter (λ n s c. Ok c) place [] at enters none_fail state course
  if_else_fails scope enter place (c ∷ []) at enters state course = chosen_fails scope enter (λ n s c. Ok c) place (c ∷ []) at enters none_fail state course
  if_else_fails scope enter place (c ∷ (b ∷ [])) at enters state course =
      chosen_fails scope enter (λ n s c. Ok c) place (c ∷ (b ∷ [])) at enters none_fail state course
  if_else_fails scope enter place (c ∷ (b ∷ (a ∷ rest))) at enters state course =
      chosen_fails scope enter (name_entered scope enter (if_else scope enter place rest) place) place (c ∷ (b ∷ (a ∷ rest))) at enters
      (name_fails scope enter (if_else scope enter place rest) place at enters (if_else_fails scope enter place rest at enters)) state course

  chosen_in_fails : (scope : Scope) (enter : Enter) (place : Place) → P place → EnterFails enter → OnwardFails (chosen_in scope enter place)
  chosen_in_fails scope enter place at enters state course = if_else_fails scope enter place (reverse state.stack) at enters state course

  -- tokens
  token_fails : (scope : Scope) (enter : Enter) (t : Token) (place : Place) → P place → EnterFails enter → OnwardFails (token_taken scope enter t place)
  token_fails scope enter (token.Call name) place at enters state course =
      named_fails scope enter (chosen_in scope enter place) (kind_of scope.style name) name place at enters (chosen_in_fails scope enter place at enters) state course
  token_fails scope enter t place at enters state course = gives_fails place (literal_state scope.style t state) course at

  each_fails : (scope : Scope) (enter : Enter) (t : TokenAt) (states : List State) (course : Course) → P t.place → EnterFails enter
      → Fails (each_taken scope enter t states course)
  each_fails scope enter t states course at enters =
      in_order_fail (taken scope enter t) (each_taken scope enter t) (λ course. refl) (λ state states course. refl)
      (λ state course. then_faulty FailsAt (counts 1 t.place course) (token_taken scope enter t.token t.place state) (counts_fails 1 t.place course at)
      (λ after _. token_fails scope enter t.token t.place at enters state after)) states course

  from_fails : (scope : Scope) (enter : Enter) (t : TokenAt) (states : List State) (course : Course) → P t.place → EnterFails enter
      → Fails (taken_from scope enter t states course)
  from_fails scope enter t states course at enters = by_make (making_for scope t.token)
    where
      by_make : (make : Option Make) → Fails (taken_by make scope enter t states course)
      by_make None = each_fails scope enter t states course at enters
      by_make (Some make) =
          then_faulty FailsAt (whiles_taken make scope t.place states [] states (none_made course)) (λ making. Ok (all_made making))
          (whiles_fail make scope t.place states [] states (none_made course) at) (λ making _. tt)

  walked_fails : (scope : Scope) (enter : Enter) (tokens : List TokenAt) (course : Course) → Each (λ t. P t.place) tokens → EnterFails enter
      → Fails (walked scope enter tokens course)
  walked_fails scope enter [] course each enters = tt
  walked_fails scope enter (t ∷ tokens) course each enters =
      then_faulty FailsAt (taken_from scope enter t course.given (record course { given = [] })) (walked scope enter tokens)
      (from_fails scope enter t course.given (record course { given = [] }) each.0 enters) (λ after _. walked_fails scope enter tokens after each.1 enters)

  -- bodies
  abbrev TokensAt : Style → Type 0
  TokensAt style = (body : BodyId) → Each (λ t. P t.place) (tokens_of style body)

  body_fails : (scope : Scope) (depth : ℕ) → TokensAt scope.style → EnterFails (body_walked scope depth)
  body_fails scope zero tokens place body at state course = at
  body_fails scope (suc more) tokens place body at state course =
      let begun = record course { given = state ∷ [] } in
      then_faulty FailsAt (walked scope (body_walked scope more) (tokens_of scope.style body) begun)
      (λ inner. gives_all place inner.given (record inner { given = course.given }))
      (walked_fails scope (body_walked scope more) (tokens_of scope.style body) begun (tokens body) (body_fails scope more tokens))
      (λ inner _. gives_all_fails place inner.given (record inner { given = course.given }) at)

  -- units
  own_fails : (scope : Scope) (place : Place) (target : Target) (body : Option BodyId) → P place → TokensAt scope.style
      → OnwardFails (own_walked scope place target body)
  own_fails scope place target (Some body) at tokens state course = body_fails scope MOST_DEPTH tokens place body at state course
  own_fails scope place (Named name) None at tokens state course =
      let enter = body_walked scope MOST_DEPTH in
      let enters = body_fails scope MOST_DEPTH tokens in
      named_fails scope enter (chosen_in scope enter place) (kind_of scope.style name) name place at enters (chosen_in_fails scope enter place at enters) state course
  own_fails scope place (Block body) None at tokens state course = tt

  pub left_fails : (place : Place) (hints : List Hint) → P place → Fails (none_left place hints)
  left_fails place [] at = tt
  left_fails place (hint ∷ hints) at = at

  summary_fails : (style : Style) (cert : Cert) (summary : Summary) → P (place_of style (body_of style summary.body)) → TokensAt style
      → Fails (summary_checked style cert summary)
  summary_fails style cert summary at tokens =
      let scope : Scope = record { style = style; cert = cert; writes = Some summary.writes; make = None } in
      let body = body_of style summary.body in
      let place = place_of style body in
      let state = started style cert.cond (summary.pre ∷ []) summary.whole summary.entry in
      then_faulty FailsAt (own_walked scope place summary.body body state (beginning summary.hints))
      (λ course. then_do (placed place (all_end cert.cond (symbols_of summary.pre) summary.posts course.given course.hints)) (none_left place))
      (own_fails scope place summary.body body at tokens state (beginning summary.hints)) (λ course _.
      let ended = all_end cert.cond (symbols_of summary.pre) summary.posts course.given course.hints in
      then_faulty FailsAt (placed place ended) (none_left place) (placed_fails place ended at) (λ hints _. left_fails place hints at))

  target_fails : (scope : Scope) (place : Place) (target : Target) → P place → TokensAt scope.style → OnwardFails (target_entered scope place target)
  target_fails scope place (Named name) at tokens state course =
      let enter = body_walked scope MOST_DEPTH in
      let enters = body_fails scope MOST_DEPTH tokens in
      name_fails scope enter (chosen_in scope enter place) place at enters (chosen_in_fails scope enter place at enters) name state course
  target_fails scope place (Block body) at tokens state course =
      entered_fails scope place (Block body) (body_walked scope MOST_DEPTH place body) at (body_fails scope MOST_DEPTH tokens place body at) state course

  -- loops
  entail_fails : (place : Place) (admits : Cond) (pieces : List Piece) (states : List State) (course : Course) → P place
      → Fails (all_entail place admits pieces states course)
  entail_fails place admits pieces states course at =
      let shown = all_end admits 0 pieces states course.hints in
      then_faulty FailsAt (placed place shown) (λ hints. Ok (record course { hints = hints })) (placed_fails place shown at) (λ hints _. tt)

  turned_fails : (scope : Scope) (place : Place) (one : Loop) (positive : Bool) (state : State) (course : Course) → P place → TokensAt scope.style
      → Fails (turned scope place one positive state course)
  turned_fails scope place one true state course at tokens =
      then_faulty FailsAt (target_entered scope place one.body state course)
      (λ after. all_entail place scope.cert.cond one.cases after.given (record after { given = [] })) (target_fails scope place one.body at tokens state course)
      (λ after _. entail_fails place scope.cert.cond one.cases after.given (record after { given = [] }) at)
  turned_fails scope place one false state course at tokens = entail_fails place scope.cert.cond one.exits (state ∷ []) course at

  all_turned_fail : (scope : Scope) (place : Place) (one : Loop) (cases : List (Bool × State)) (course : Course) → P place → TokensAt scope.style
      → Fails (all_turned scope place one cases course)
  all_turned_fail scope place one cases course at tokens =
      in_order_fail (λ (case : Bool × State). turned scope place one case.0 case.1) (all_turned scope place one) (λ course. refl) (λ case cases course. refl)
      (λ case course. turned_fails scope place one case.0 case.1 course at tokens) cases course

  tested_fails : (scope : Scope) (place : Place) (one : Loop) → P place → TokensAt scope.style → OnwardFails (tested scope place one)
  tested_fails scope place one at tokens state course =
      then_faulty FailsAt (placed place (one_of Int state)) (λ taken.
      then_do (placed place (above_of scope.cert.cond taken.rest taken.operand course.hints)) (λ labelled.
      all_turned scope place one labelled.cases (record course { hints = labelled.hints })))
      (placed_fails place (one_of Int state) at) (λ taken _.
      let weighed = above_of scope.cert.cond taken.rest taken.operand course.hints in
      then_faulty FailsAt (placed place weighed) (λ labelled. all_turned scope place one labelled.cases (record course { hints = labelled.hints }))
      (placed_fails place weighed at) (λ labelled _. all_turned_fail scope place one labelled.cases (record course { hints = labelled.hints }) at tokens))

  all_tested_fail : (scope : Scope) (place : Place) (one : Loop) (states : List State) (course : Course) → P place → TokensAt scope.style
      → Fails (all_tested scope place one states course)
  all_tested_fail scope place one states course at tokens =
      in_order_fail (tested scope place one) (all_tested scope place one) (λ course. refl) (λ state states course. refl)
      (λ state course. tested_fails scope place one at tokens state course) states course

  turn_fails : (scope : Scope) (place : Place) (one : Loop) → P place → TokensAt scope.style → OnwardFails (turn scope place one)
  turn_fails scope place one at tokens state course =
      then_faulty FailsAt (target_entered scope place one.test state course) (λ after. all_tested scope place one after.given (record after { given = [] }))
      (target_fails scope place one.test at tokens state course) (λ after _.
      all_tested_fail scope place one after.given (record after { given = [] }) at tokens)

  turns_fail : (scope : Scope) (place : Place) (one : Loop) (cases : List Piece) (course : Course) → P place → TokensAt scope.style
      → Fails (turned_from scope place one cases course)
  turns_fail scope place one cases course at tokens =
      in_order_fail (λ (case : Piece). turn scope place one (turn_state scope one case)) (turned_from scope place one) (λ course. refl)
      (λ case cases course. refl) (λ case course. turn_fails scope place one at tokens (turn_state scope one case) course) cases course

  check_fails : (style : Style) (cert : Cert) (one : Loop) → P (place_of style (body_of style one.body)) → TokensAt style → Fails (loop_checked style cert one)
  check_fails style cert one at tokens =
      let scope : Scope = record { style = style; cert = cert; writes = Some one.writes; make = None } in
      let place = place_of style (body_of style one.body) in
      then_faulty FailsAt (turned_from scope place one one.cases (beginning one.hints)) (λ course. none_left place course.hints)
      (turns_fail scope place one one.cases (beginning one.hints) at tokens) (λ course _. left_fails place course.hints at)

  targets_fail : (scope : Scope) (place : Place) (target : Target) (states : List State) (course : Course) → P place → TokensAt scope.style
      → Fails (target_from scope place target states course)
  targets_fail scope place target states course at tokens =
      in_order_fail (target_entered scope place target) (target_from scope place target) (λ course. refl) (λ state states course. refl)
      (λ state course. target_fails scope place target at tokens state course) states course

-- the places of a style's bodies
pub element_at : {X : Type 0} (P : X → Type 0) (xs : List X) → ((k : ℕ) (x : X) → slice_get xs k ≡ Some x → P x) → Each P xs
element_at P [] each = tt
element_at P (x ∷ xs) each = (each 0 x refl, element_at P xs (λ k y there. each (suc k) y there))

tokens_at : (style : Style) (body : BodyId) → Each (λ t. IsOfBody style t.place) (tokens_of style body)
tokens_at style body = by_body (slice_get style.bodies body.0) refl
  where
    by_body : (o : Option Body) → slice_get style.bodies body.0 ≡ o → Each (λ t. IsOfBody style t.place) (option_map_or (λ b. b.tokens) o [])
    by_body (Some b) there = element_at (λ t. IsOfBody style t.place) b.tokens (λ k t here. (body.0, b, there, inr (k, t, here, refl)))
    by_body None there = tt

unit_place : (style : Style) (body : Option BodyId) → IsOfUnit style (place_of style body)
unit_place style None = inr refl
unit_place style (Some body) = by_body (slice_get style.bodies body.0) refl
  where
    by_body : (o : Option Body) → slice_get style.bodies body.0 ≡ o → IsOfUnit style (option_map_or (λ found. found.place) o (record { line = 1; column = 1 }))
    by_body (Some b) there = inl (body.0, b, there, inl refl)
    by_body None there = inr refl

pub refused : {X : Type 0} (P : Place → Type 0) (result : Result X Refusal) (refusal : Refusal) → result ≡ Err refusal → IfErr result (λ r. P r.place) → P refusal.place
refused P (Ok x) refusal is fails = absurd (cc)
refused P (Err r) refusal is fails =
    let same : r ≡ refusal = cc in
    subst (λ (x : Refusal). P x.place) same fails

-- a summary's own check fails at a place of its unit or of a body
pub summary_refused : (style : Style) (cert : Cert) (summary : Summary) (refusal : Refusal) → summary_checked style cert summary ≡ Err refusal
    → IsOfUnit style refusal.place
summary_refused style cert summary refusal is =
    refused (IsOfUnit style) (summary_checked style cert summary) refusal is
    (summary_fails (IsOfUnit style) style cert summary (unit_place style (body_of style summary.body))
    (λ body. each_each (λ t. IsOfBody style t.place) (λ t. IsOfUnit style t.place) (λ t at. inl at) (tokens_of style body) (tokens_at style body)))

-- so does a loop's
pub loop_refused : (style : Style) (cert : Cert) (one : Loop) (refusal : Refusal) → loop_checked style cert one ≡ Err refusal → IsOfUnit style refusal.place
loop_refused style cert one refusal is =
    refused (IsOfUnit style) (loop_checked style cert one) refusal is
    (check_fails (IsOfUnit style) style cert one (unit_place style (body_of style one.body))
    (λ body. each_each (λ t. IsOfBody style t.place) (λ t. IsOfUnit style t.place) (λ t at. inl at) (tokens_of style body) (tokens_at style body)))

-- a call fails at its own place or at one of a body
pub call_refused : (style : Style) (cert : Cert) (states : List State) (target : Target) (place : Place) (hints : List Hint) (refusal : Refusal)
    → call_walked style cert states target place hints ≡ Err refusal → (refusal.place ≡ place) ⊎ IsOfBody style refusal.place
call_refused style cert states target place hints refusal is =
    let At : Place → Type 0 = λ p. (p ≡ place) ⊎ IsOfBody style p in
    refused At (call_walked style cert states target place hints) refusal is
    (targets_fail At (record { style = style; cert = cert; writes = None; make = None }) place target states (beginning hints) (inl refl)
    (λ body. each_each (λ t. IsOfBody style t.place) (λ t. At t.place) (λ t at. inr at) (tokens_of style body) (tokens_at style body)))

-- what holds of the places of bodies and of their tokens
pub body_stands : (P : Place → Type 0) (style : Style) (place : Place) → Each (λ body. P body.place × Each (λ t. P t.place) body.tokens) style.bodies
    → IsOfBody style place → P place
body_stands P style place all (k, body, there, is) =
    let here = got_some (λ (b : Body). P b.place × Each (λ t. P t.place) b.tokens) style.bodies k body there all in
    elim is [
      | inl at ↦ subst P (sym at) here.0
      | inr token ↦ subst P (sym token.3) (got_some (λ (t : TokenAt). P t.place) body.tokens token.0 token.1 token.2 here.1)
    ]
  where
    got_some : {X : Type 0} (Q : X → Type 0) (xs : List X) (k : ℕ) (x : X) → slice_get xs k ≡ Some x → Each Q xs → Q x
    got_some {X} Q xs k x there each = subst (λ (o : Option X). IfSome o Q) there (got Q xs k each)

-- a refusal of a unit stands in the text of the style, or at its end, where the bodies of the style and their tokens do
pub unit_stands : (source : List ℕ) (style : Style) (place : Place)
    → Each (λ body. StandsIn source body.place × Each (λ t. StandsIn source t.place) body.tokens) style.bodies → IsOfUnit style place → StandsIn source place
unit_stands source style place all (inl is) = body_stands (StandsIn source) style place all is
unit_stands source style place all (inr first) = (0, omega arith, first)
