-- What a walk finds is what the walk reads, in the order of the walk: also where the certificate has other records of commands.
use Rattle.std.proofs.Common.{◌≡◌, ℕ, zero, suc, Bool, true, false, cond, List, [], ◌∷◌, ◌++◌, reverse, Option, None, Some, Ok, Err, refl, sym, ap, subst, ◌∙◌}
use Rattle.std.specs.Option.{option_map_or}
use Rattle.bv_base.specs.Answers.{then_do}
use Rattle.bv_base.specs.declared.place.Place.{Place}
use Rattle.name_table.specs.declared.builtin.Builtin.{Builtin}
use Rattle.name_table.specs.declared.builtin.Builtin.TheVariants as op
use Rattle.name_table.specs.declared.names.Kind.{Kind}
use Rattle.name_table.specs.declared.names.Kind.TheVariants as kind
use Rattle.name_table.specs.declared.names.NameId.{NameId}
use Rattle.name_table.specs.declared.style.BodyId.{BodyId}
use Rattle.name_table.specs.declared.style.Style.{Style}
use Rattle.name_table.specs.declared.style.Token.{Token}
use Rattle.name_table.specs.declared.style.Token.TheVariants as token
use Rattle.name_table.specs.declared.style.TokenAt.{TokenAt}
use Rattle.bst_meaning.specs.StyleParts.{kind_of, tokens_of}
use Rattle.bst_meaning.specs.declared.value.Target.{Target}
use Rattle.bst_meaning.specs.declared.value.Target.TheVariants.{Named, Block}
use Rattle.cert_format.specs.declared.cert.Cert.{Cert}
use Rattle.cert_format.specs.declared.cert.CommandPart.{CommandPart}
use Rattle.sym_state.specs.State.{State}
use Rattle.sym_state.specs.Cases.{above_of, split_of}
use Rattle.sym_state.specs.Changes.{bound}
use Rattle.sym_state.specs.Demands.{Outcome, Three, three_by, two_of}
use Rattle.sym_state.specs.Effects.{effect_of}
use Rattle.sym_state.specs.Results.{with_top}
use Rattle.sym_state.specs.declared.hint.Hint.{Hint}
use Rattle.sym_state.specs.declared.symbol.Kinds.TheVariants.{Int, Func}
use Rattle.sym_state.specs.declared.symbol.Sym.{Sym}
use Rattle.sym_state.specs.declared.test.Test.{Test}
use Rattle.straight_hints.specs.Found.{above_hints, plain_hints, test_hints}
use Rattle.straight_hints.specs.declared.finding.Finding.{Finding}
use Rattle.straight_hints.proofs.CasesTaken.{above_taken, cases_leaving, labelled_leaving, test_taken}
use Rattle.straight_hints.proofs.RulesTaken.{Takes, after_leaving, plain_taken}
use Rattle.cert_check.specs.declared.limits.TheConstants.{MOST_DEPTH}
use Rattle.cert_check.specs.declared.refusal.Refusal.{Refusal}
use Rattle.cert_check.specs.Courses.{Course, Walk, counts, gives, gives_all}
use Rattle.cert_check.specs.Units.{call_found, call_walked, everywhere, target_entered, target_from}
use Rattle.cert_check.specs.Walks.{Call, Enter, Make, Onward, Scope, body_walked, built_in, cases_entered, choice, chosen, chosen_in, confined, each_taken, entered, entered_by, entering, entering_nothing, exact_target, function_entered, has_summary, if_else, is_within, is_wizard, literal_state, loop_around, name_entered, named, plain, repeated, split, taken, taken_by, taken_from, test_of, token_taken, type_called, type_functions, type_walked, typed, types_called, variable, walked, while_by_make, written_by}
use Rattle.cert_check.proofs.Inverted.{confined_ok}
use Rattle.cert_check.proofs.FoundHints.{IsRead, Way, counts_read, gives_all_read, gives_read, placed_read, reads_as, self_read, takes_read, then_read, where_read}
use Rattle.cert_check.proofs.Makings.{making_none}

-- a scope whose certificate has these records of commands, which no walk looks at
abbrev pub with_records : List CommandPart → Scope → Scope
with_records parts scope = record scope { cert = record scope.cert { commands = parts } }

confined_taken : (t : Bool) (rule : List Hint → Outcome) (hints : List Hint) → Takes after_leaving rule hints
    → Takes after_leaving (λ left. confined t (rule left)) hints
confined_taken t rule hints takes after e rest =
    let one = confined_ok t (rule hints) after e in
    ap (λ (b : Bool). confined b (rule (hints ++ rest))) one.0 ∙ takes after one.1 rest

module _ (finding : Finding) (parts : List CommandPart) (scope : Scope) (unmade : scope.make ≡ None) where
  abbrev OnwardRead : Onward → Onward → Type 0
  OnwardRead walk read = (state : State) → IsRead finding (walk state) (read state)

  abbrev EnterRead : Enter → Enter → Type 0
  EnterRead enter read = (place : Place) (body : BodyId) → OnwardRead (enter place body) (read place body)

  abbrev CallRead : Call → Call → Type 0
  CallRead call read = (name : NameId) → OnwardRead (call name) (read name)

  -- rules that enter nothing
  plain_read : (o : Builtin) (place : Place) → OnwardRead (plain scope o place) (plain (with_records parts scope) o place)
  plain_read o place state way found after e =
      let hints = plain_hints finding scope.style scope.cert.cond state o in
      let within = is_within scope.writes (written_by o state) in
      let rule = effect_of scope.style scope.cert.cond state o in
      takes_read finding after_leaving place (λ left. confined within (rule left)) hints (λ x. gives place x.state) (λ x. gives place x.state)
      (plain (with_records parts scope) o place state) (λ x. x.hints) way found after
      (confined_taken within rule hints (plain_taken finding scope.style scope.cert.cond state o)) (λ x. gives_read finding place x.state)
      (λ rest. refl) (λ x rest. refl) e

  split_read : (asked : Test) (place : Place) → OnwardRead (split scope asked place) (split (with_records parts scope) asked place)
  split_read asked place state way found after e =
      takes_read finding cases_leaving place (split_of scope.cert.cond state asked) (test_hints finding scope.cert.cond state asked)
      (λ x. gives_all place x.states) (λ x. gives_all place x.states) (split (with_records parts scope) asked place state) (λ x. x.hints) way found after
      (test_taken finding scope.cert.cond state asked) (λ x. gives_all_read finding place x.states) (λ rest. refl) (λ x rest. refl) e

  variable_read : (name : NameId) (place : Place) → OnwardRead (variable name place) (variable name place)
  variable_read name place state = by_bound (bound name state) _
    where
      by_bound : (o : Option Sym) (refusal : Refusal) → IsRead finding (λ course. option_map_or (λ s. gives place (with_top s state) course) o (Err refusal))
          (λ course. option_map_or (λ s. gives place (with_top s state) course) o (Err refusal))
      by_bound (Some s) refusal = gives_read finding place (with_top s state)
      by_bound None refusal = λ way found after e. absurd (cc)

  nothing_read : (o : Builtin) (asked : Option Test) (place : Place)
      → OnwardRead (entering_nothing scope o asked place) (entering_nothing (with_records parts scope) o asked place)
  nothing_read o (Some asked) place = split_read asked place
  nothing_read o None place = plain_read o place

  -- what is entered has no summary where hints are found
  entered_read : (place : Place) (target : Target) (walk read : Onward) → OnwardRead walk read
      → OnwardRead (entered scope place target walk) (entered (with_records parts scope) place target read)
  entered_read place target walk read walks state =
      elim (has_summary scope.cert target) as (λ (t : Bool). IsRead finding
      (λ course. cond t (entered_by scope place target walk state course course.hints) (walk state course))
      (λ course. cond t (entered_by (with_records parts scope) place target read state course course.hints) (read state course))) [
        | true ↦ λ way found after e. absurd (cc)
        | false ↦ walks state
      ]

  -- `if$`
  function_read : (enter read : Enter) (call call_read : Call) (place : Place) (target : Option Target) → EnterRead enter read
      → CallRead call call_read
      → OnwardRead (function_entered scope enter call place target) (function_entered (with_records parts scope) read call_read place target)
  function_read enter read call call_read place None enters calls state = λ way found after e. absurd (cc)
  function_read enter read call call_read place (Some (Named name)) enters calls state = calls name state
  function_read enter read call call_read place (Some (Block body)) enters calls state =
      entered_read place (Block body) (enter place body) (read place body) (enters place body) state

  cases_read : (enter read : Enter) (call call_read : Call) (place : Place) (three : Three) (cases : List (Bool × State))
      → EnterRead enter read → CallRead call call_read
      → IsRead finding (cases_entered scope enter call place three cases) (cases_entered (with_records parts scope) read call_read place three cases)
  cases_read enter read call call_read place three [] enters calls = self_read finding
  cases_read enter read call call_read place three (case ∷ cases) enters calls =
      let target = exact_target scope.style case.1 (cond case.0 three.middle three.top) in
      then_read finding (function_entered scope enter call place target case.1) (cases_entered scope enter call place three cases)
      (function_entered (with_records parts scope) read call_read place target case.1)
      (cases_entered (with_records parts scope) read call_read place three cases)
      (function_read enter read call call_read place target enters calls case.1)
      (cases_read enter read call call_read place three cases enters calls)

  choice_read : (enter read : Enter) (call call_read : Call) (place : Place) (three : Three) → EnterRead enter read
      → CallRead call call_read
      → IsRead finding (choice scope enter call place three) (choice (with_records parts scope) read call_read place three)
  choice_read enter read call call_read place three enters calls way found after e =
      takes_read finding labelled_leaving place (above_of scope.cert.cond three.rest three.lowest)
      (above_hints finding scope.cert.cond three.rest three.lowest)
      (λ x. cases_entered scope enter call place three x.cases) (λ x. cases_entered (with_records parts scope) read call_read place three x.cases)
      (choice (with_records parts scope) read call_read place three) (λ x. x.hints) way found after
      (above_taken finding scope.cert.cond three.rest three.lowest)
      (λ x. cases_read enter read call call_read place three x.cases enters calls) (λ rest. refl) (λ x rest. refl) e

  chosen_read : (enter read : Enter) (call call_read : Call) (place : Place) (stack : List Sym) → EnterRead enter read
      → CallRead call call_read → OnwardRead (chosen scope enter call place stack) (chosen (with_records parts scope) read call_read place stack)
  chosen_read enter read call call_read place stack enters calls state =
      placed_read finding place (three_by Int Func Func stack state) (λ three. choice scope enter call place three)
      (λ three. choice (with_records parts scope) read call_read place three)
      (λ three. choice_read enter read call call_read place three enters calls)

  -- `while$` is short of a hint
  around_read : (place : Place) (test body : Option Target)
      → OnwardRead (loop_around scope place test body) (loop_around (with_records parts scope) place test body)
  around_read place (Some test) (Some body) state = λ way found after e. absurd (cc)
  around_read place (Some test) None state = λ way found after e. absurd (cc)
  around_read place None body state = λ way found after e. absurd (cc)

  repeated_read : (place : Place) → OnwardRead (repeated scope place) (repeated (with_records parts scope) place)
  repeated_read place state =
      placed_read finding place (two_of Func Func state)
      (λ two. loop_around scope place (exact_target scope.style state two.lower) (exact_target scope.style state two.upper) two.rest)
      (λ two. loop_around (with_records parts scope) place (exact_target scope.style state two.lower) (exact_target scope.style state two.upper) two.rest)
      (λ two. around_read place (exact_target scope.style state two.lower) (exact_target scope.style state two.upper) two.rest)

  -- `call.type$`
  type_walk_read : (enter read : Enter) (found : Option Kind) (place : Place) → EnterRead enter read
      → OnwardRead (type_walked enter found place) (type_walked read found place)
  type_walk_read enter read (Some (kind.Wizard body)) place enters state = enters place body state
  type_walk_read enter read _ place enters state = gives_read finding place state

  type_read : (enter read : Enter) (place : Place) (name : NameId) → EnterRead enter read
      → OnwardRead (type_called scope enter place name) (type_called (with_records parts scope) read place name)
  type_read enter read place name enters state =
      let walk = type_walked enter (kind_of scope.style name) place in
      let read_walk = type_walked read (kind_of scope.style name) place in
      then_read finding (counts 1 place) (entered scope place (Named name) walk state)
      (counts 1 place) (entered (with_records parts scope) place (Named name) read_walk state) (counts_read finding 1 place)
      (entered_read place (Named name) walk read_walk (type_walk_read enter read (kind_of scope.style name) place enters) state)

  types_read : (enter read : Enter) (place : Place) (names : List NameId) → EnterRead enter read
      → OnwardRead (types_called scope enter place names) (types_called (with_records parts scope) read place names)
  types_read enter read place [] enters state = self_read finding
  types_read enter read place (name ∷ names) enters state =
      then_read finding (type_called scope enter place name state) (types_called scope enter place names state)
      (type_called (with_records parts scope) read place name state) (types_called (with_records parts scope) read place names state)
      (type_read enter read place name enters state) (types_read enter read place names enters state)

  typed_read : (enter read : Enter) (place : Place) → EnterRead enter read
      → OnwardRead (typed scope enter place) (typed (with_records parts scope) read place)
  typed_read enter read place enters state =
      let names = type_functions scope.style scope.cert.cond in
      where_read finding state.at_entry _ (types_called scope enter place names state) (types_called (with_records parts scope) read place names state)
      (types_read enter read place names enters state)

  -- names
  built_in_read : (enter read : Enter) (other other_read : Onward) (o : Builtin) (place : Place) → EnterRead enter read
      → OnwardRead other other_read → OnwardRead (built_in scope enter other o place) (built_in (with_records parts scope) read other_read o place)
  built_in_read enter read other other_read op.IfElse place enters others state = others state
  built_in_read enter read other other_read op.WhileDo place enters others state =
      subst (λ (m : Option Make). IsRead finding (while_by_make m scope place state) (while_by_make m (with_records parts scope) place state)) (sym unmade)
      (repeated_read place state)
  built_in_read enter read other other_read op.CallType place enters others state = typed_read enter read place enters state
  built_in_read enter read other other_read o place enters others state = nothing_read o (test_of o) place state

  named_read : (enter read : Enter) (other other_read : Onward) (found : Option Kind) (name : NameId) (place : Place)
      → EnterRead enter read → OnwardRead other other_read
      → OnwardRead (named scope enter other found name place) (named (with_records parts scope) read other_read found name place)
  named_read enter read other other_read (Some (kind.Builtin o)) name place enters others state =
      built_in_read enter read other other_read o place enters others state
  named_read enter read other other_read (Some (kind.Wizard body)) name place enters others state =
      entered_read place (Named name) (enter place body) (read place body) (enters place body) state
  named_read enter read other other_read _ name place enters others state = variable_read name place state

  entering_read : (call read : Onward) (found : Option Kind) (name : NameId) (place : Place) → OnwardRead call read
      → OnwardRead (entering scope call found name place) (entering (with_records parts scope) read found name place)
  entering_read call read found name place calls state =
      elim (is_wizard found) as (λ (t : Bool). IsRead finding
      (λ course. cond t (call state course) (entered scope place (Named name) call state course))
      (λ course. cond t (read state course) (entered (with_records parts scope) place (Named name) read state course))) [
        | true ↦ calls state
        | false ↦ entered_read place (Named name) call read calls state
      ]

  name_read : (enter read : Enter) (other other_read : Onward) (place : Place) → EnterRead enter read → OnwardRead other other_read
      → CallRead (name_entered scope enter other place) (name_entered (with_records parts scope) read other_read place)
  name_read enter read other other_read place enters others name state =
      let found = kind_of scope.style name in
      let call = named scope enter other found name place in
      let call_read = named (with_records parts scope) read other_read found name place in
      then_read finding (counts 1 place) (entering scope call found name place state)
      (counts 1 place) (entering (with_records parts scope) call_read found name place state) (counts_read finding 1 place)
      (entering_read call call_read found name place (named_read enter read other other_read found name place enters others) state)

  if_else_read : (enter read : Enter) (place : Place) (stack : List Sym) → EnterRead enter read
      → OnwardRead (if_else scope enter place stack) (if_else (with_records parts scope) read place stack)
  if_else_read enter read place [] enters =
      chosen_read enter read (λ n s c. Ok c) (λ n s c. Ok c) place [] enters (λ name state. self_read finding)
  if_else_read enter read place (c ∷ []) enters =
      chosen_read enter read (λ n s c. Ok c) (λ n s c. Ok c) place (c ∷ []) enters (λ name state. self_read finding)
  if_else_read enter read place (c ∷ (b ∷ [])) enters =
      chosen_read enter read (λ n s c. Ok c) (λ n s c. Ok c) place (c ∷ (b ∷ [])) enters (λ name state. self_read finding)
  if_else_read enter read place (c ∷ (b ∷ (a ∷ rest))) enters =
      let other = if_else scope enter place rest in
      let other_read = if_else (with_records parts scope) read place rest in
      chosen_read enter read (name_entered scope enter other place) (name_entered (with_records parts scope) read other_read place) place
      (c ∷ (b ∷ (a ∷ rest))) enters (name_read enter read other other_read place enters (if_else_read enter read place rest enters))

  chosen_in_read : (enter read : Enter) (place : Place) → EnterRead enter read
      → OnwardRead (chosen_in scope enter place) (chosen_in (with_records parts scope) read place)
  chosen_in_read enter read place enters state = if_else_read enter read place (reverse state.stack) enters state

  -- tokens
  token_read : (enter read : Enter) (t : Token) (place : Place) → EnterRead enter read
      → OnwardRead (token_taken scope enter t place) (token_taken (with_records parts scope) read t place)
  token_read enter read (token.Call name) place enters state =
      named_read enter read (chosen_in scope enter place) (chosen_in (with_records parts scope) read place) (kind_of scope.style name) name place enters
      (chosen_in_read enter read place enters) state
  token_read enter read t place enters state = gives_read finding place (literal_state scope.style t state)

  taken_read : (enter read : Enter) (t : TokenAt) → EnterRead enter read
      → OnwardRead (taken scope enter t) (taken (with_records parts scope) read t)
  taken_read enter read t enters state =
      then_read finding (counts 1 t.place) (token_taken scope enter t.token t.place state)
      (counts 1 t.place) (token_taken (with_records parts scope) read t.token t.place state) (counts_read finding 1 t.place)
      (token_read enter read t.token t.place enters state)

  each_read : (enter read : Enter) (t : TokenAt) (states : List State) → EnterRead enter read
      → IsRead finding (each_taken scope enter t states) (each_taken (with_records parts scope) read t states)
  each_read enter read t [] enters = self_read finding
  each_read enter read t (state ∷ states) enters =
      then_read finding (taken scope enter t state) (each_taken scope enter t states)
      (taken (with_records parts scope) read t state) (each_taken (with_records parts scope) read t states)
      (taken_read enter read t enters state) (each_read enter read t states enters)

  from_read : (enter read : Enter) (t : TokenAt) (states : List State) → EnterRead enter read
      → IsRead finding (taken_from scope enter t states) (taken_from (with_records parts scope) read t states)
  from_read enter read t states enters =
      subst (λ (m : Option Make). IsRead finding (taken_by m scope enter t states) (taken_by m (with_records parts scope) read t states))
      (sym (making_none scope t.token unmade)) (each_read enter read t states enters)

  walked_read : (enter read : Enter) (tokens : List TokenAt) → EnterRead enter read
      → IsRead finding (walked scope enter tokens) (walked (with_records parts scope) read tokens)
  walked_read enter read [] enters = self_read finding
  walked_read enter read (t ∷ tokens) enters =
      then_read finding (λ course. taken_from scope enter t course.given (record course { given = [] })) (walked scope enter tokens)
      (λ course. taken_from (with_records parts scope) read t course.given (record course { given = [] })) (walked (with_records parts scope) read tokens)
      (λ way found after e. reads_as finding (taken_from (with_records parts scope) read t way.given)
      (λ course. taken_from (with_records parts scope) read t course.given (record course { given = [] }))
      (record { given = []; count = way.count }) way found after (λ rest. refl)
      (from_read enter read t way.given enters (record { given = []; count = way.count }) found after e))
      (walked_read enter read tokens enters)

  -- bodies
  inside_read : (search read : Course → Walk) (place : Place) (state : State) → IsRead finding search read
      → IsRead finding
      (λ course. then_do (search (record course { given = state ∷ [] })) (λ inner. gives_all place inner.given (record inner { given = course.given })))
      (λ course. then_do (read (record course { given = state ∷ [] })) (λ inner. gives_all place inner.given (record inner { given = course.given })))
  inside_read search read place state searches way found after e =
      let begun : Way = record { given = state ∷ []; count = way.count } in
      let ends : Course → Walk = λ inner. gives_all place inner.given (record inner { given = way.given }) in
      reads_as finding (λ course. then_do (read course) ends)
      (λ course. then_do (read (record course { given = state ∷ [] })) (λ inner. gives_all place inner.given (record inner { given = course.given })))
      begun way found after (λ rest. refl)
      (then_read finding search ends read ends searches
      (λ middle more last is. reads_as finding (gives_all place middle.given) ends (record { given = way.given; count = middle.count }) middle more last
      (λ rest. refl) (gives_all_read finding place middle.given (record { given = way.given; count = middle.count }) more last is))
      begun found after e)

  body_read : (depth : ℕ) → EnterRead (body_walked scope depth) (body_walked (with_records parts scope) depth)
  body_read zero place body state = λ way found after e. absurd (cc)
  body_read (suc more) place body state =
      inside_read (walked scope (body_walked scope more) (tokens_of scope.style body))
      (walked (with_records parts scope) (body_walked (with_records parts scope) more) (tokens_of scope.style body)) place state
      (walked_read (body_walked scope more) (body_walked (with_records parts scope) more) (tokens_of scope.style body) (body_read more))

  -- targets
  target_read : (place : Place) (target : Target)
      → OnwardRead (target_entered scope place target) (target_entered (with_records parts scope) place target)
  target_read place (Named name) state =
      let enter = body_walked scope MOST_DEPTH in
      let read = body_walked (with_records parts scope) MOST_DEPTH in
      name_read enter read (chosen_in scope enter place) (chosen_in (with_records parts scope) read place) place (body_read MOST_DEPTH)
      (chosen_in_read enter read place (body_read MOST_DEPTH)) name state
  target_read place (Block body) state =
      entered_read place (Block body) (body_walked scope MOST_DEPTH place body) (body_walked (with_records parts scope) MOST_DEPTH place body)
      (body_read MOST_DEPTH place body) state

  targets_read : (place : Place) (target : Target) (states : List State)
      → IsRead finding (target_from scope place target states) (target_from (with_records parts scope) place target states)
  targets_read place target [] = self_read finding
  targets_read place target (state ∷ states) =
      then_read finding (target_entered scope place target state) (target_from scope place target states)
      (target_entered (with_records parts scope) place target state) (target_from (with_records parts scope) place target states)
      (target_read place target state) (targets_read place target states)

-- a call whose hints were found reads them, and leaves those that stand behind them
pub call_read : (finding : Finding) (style : Style) (cert : Cert) (parts : List CommandPart) (states : List State) (target : Target) (place : Place)
    (after : Course) (rest : List Hint) → call_found finding style cert states target place ≡ Ok after
    → call_walked style (record cert { commands = parts }) states target place (after.found ++ rest)
    ≡ Ok (record after { hints = rest; finding = None; found = [] })
call_read finding style cert parts states target place after rest e =
    let one = targets_read finding parts (everywhere style cert) refl place target states (record { given = []; count = 0 }) [] after e in
    subst (λ (course : Course). call_walked style (record cert { commands = parts }) states target place (course.found ++ rest)
    ≡ Ok (record course { hints = rest; finding = None; found = [] })) (sym one.ends) (one.reads rest)
