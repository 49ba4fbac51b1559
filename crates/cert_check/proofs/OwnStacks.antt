-- `if$` is entered in a case by the case's own stack, which is what the operands left. A body is walked one body deeper.
use Rattle.std.proofs.Common.{◌≡◌, ℕ, zero, suc, ◌-◌, ◌<◌, ℤ, Bool, true, false, cond, List, [], ◌∷◌, ◌++◌, reverse, Option, None, Some, Result, Ok, Err, refl, sym, ap, subst, ◌∙◌, arith}
use Rattle.std.specs.List.{All}
use Rattle.std.proofs.lemmas.List.Elements.{All-append, All-cons, All-head, All-nil, All-same, All-tail}
use Rattle.std.proofs.lemmas.List.{reverse-reverse}
use Rattle.bv_base.specs.Answers.{then_do}
use Rattle.bv_base.specs.declared.place.Place.{Place}
use Rattle.name_table.specs.declared.builtin.Builtin.{Builtin}
use Rattle.name_table.specs.declared.builtin.Builtin.TheVariants as op
use Rattle.name_table.specs.declared.names.Kind.{Kind}
use Rattle.name_table.specs.declared.names.Kind.TheVariants as kind
use Rattle.name_table.specs.declared.names.NameId.{NameId}
use Rattle.name_table.specs.declared.style.BodyId.{BodyId}
use Rattle.bst_meaning.specs.StyleParts.{kind_of, tokens_of}
use Rattle.bst_meaning.specs.declared.condition.Cond.{Cond}
use Rattle.bst_meaning.specs.declared.value.Target.{Target}
use Rattle.bst_meaning.specs.declared.value.Target.TheVariants.{Named, Block}
use Rattle.sym_state.specs.State.{State}
use Rattle.sym_state.specs.Cases.{Cases, Labelled, above_of, not_positive_rows, positive_rows, with_case, without_labels}
use Rattle.sym_state.specs.Decided.{exact_integer}
use Rattle.sym_state.specs.Demands.{Three, three_by}
use Rattle.sym_state.specs.declared.hint.Hint.{Hint}
use Rattle.sym_state.specs.declared.hint.Hint.TheVariants as hint
use Rattle.sym_state.specs.declared.symbol.Kinds.TheVariants.{Int, Func}
use Rattle.sym_state.specs.declared.symbol.Sym.{Sym}
use Rattle.refinements.proofs.Covering.{both_weighed, weighed_each}
use Rattle.refinements.proofs.Labels.{labelled_all, labels_dropped, sign_cases}
use Rattle.cert_check.specs.declared.refusal.Refusal.{Refusal}
use Rattle.cert_check.specs.Courses.{Course, Walk, behind, counts, gives_all, placed}
use Rattle.cert_check.specs.Walks.{Call, Enter, Onward, Scope, body_walked, built_in, cases_entered, choice, chosen, chosen_in, entered, entered_by, entering, exact_target, function_entered, has_summary, hints_of_choice, if_else, is_wizard, name_entered, named, walked}
use Rattle.cert_check.proofs.Inverted.{placed_ok}
use Rattle.cert_check.proofs.Walked.{three_ok}

-- the cases of whether an integer is above 0 have the state's stack
sign_stacks : (admits : Cond) (state : State) (s : Sym) (o : Option ℤ) (hints : List Hint) (cases : Cases) → sign_cases admits state s o hints ≡ Ok cases
    → All (λ one. one.stack ≡ state.stack) cases.states
sign_stacks admits state s (Some n) hints cases e =
    let same : record { states = state ∷ []; hints = hints } ≡ cases = cc in
    subst (λ (c : Cases). All (λ one. one.stack ≡ state.stack) c.states) same
    (All-cons (λ (one : State). one.stack ≡ state.stack) state [] refl (All-nil (λ (one : State). one.stack ≡ state.stack)))
sign_stacks admits state s None hints cases e =
    let P : State → Type 0 = λ one. one.stack ≡ state.stack in
    let first : State = with_case [] (positive_rows s) state in
    let second : State = with_case [] (not_positive_rows s) state in
    let two = both_weighed admits first second hints cases e in
    All-same P cases.states (two.one.states ++ two.other.states) two.joined
    (All-append P two.one.states two.other.states (weighed_each P admits first hints two.one refl two.first_weighed)
    (weighed_each P admits second two.one.hints two.other refl two.second_weighed))

pub above_stacks : (admits : Cond) (state : State) (s : Sym) (hints : List Hint) (all : Labelled) → above_of admits state s hints ≡ Ok all
    → All (λ one. one.1.stack ≡ state.stack) all.cases
above_stacks admits state s hints all e =
    labelled_all (λ one. one.stack ≡ state.stack) all.cases
    (sign_stacks admits state s (exact_integer state.facts s.0) hints _ (sym (labels_dropped admits state s (exact_integer state.facts s.0) hints) ∙ ap without_labels e))

-- two ways on from a state are the same
abbrev pub AreSame : Onward → Onward → State → Type 0
AreSame walk other state = (course : Course) → walk state course ≡ other state course

hints_same : (scope : Scope) (place : Place) (target : Target) (walk other : Onward) (state : State) (course : Course) (hints : List Hint) → AreSame walk other state
    → entered_by scope place target walk state course hints ≡ entered_by scope place target other state course hints
hints_same scope place target walk other state course [] same = refl
hints_same scope place target walk other state course (hint.Apply k ∷ hints) same = refl
hints_same scope place target walk other state course (hint.Walk ∷ hints) same = same (record course { hints = hints })
hints_same scope place target walk other state course (_ ∷ hints) same = refl

entered_same : (scope : Scope) (place : Place) (target : Target) (walk other : Onward) (state : State) → AreSame walk other state
    → AreSame (entered scope place target walk) (entered scope place target other) state
entered_same scope place target walk other state same course =
    elim (has_summary scope.cert target) as (λ (t : Bool). cond t (entered_by scope place target walk state course course.hints) (walk state course)
    ≡ cond t (entered_by scope place target other state course course.hints) (other state course)) [
      | true ↦ hints_same scope place target walk other state course course.hints same
      | false ↦ same course
    ]

built_in_same : (scope : Scope) (enter : Enter) (walk other : Onward) (o : Builtin) (place : Place) (state : State) → AreSame walk other state
    → AreSame (built_in scope enter walk o place) (built_in scope enter other o place) state
built_in_same scope enter walk other op.IfElse place state same course = same course
built_in_same scope enter walk other _ place state same course = refl

named_same : (scope : Scope) (enter : Enter) (walk other : Onward) (found : Option Kind) (name : NameId) (place : Place) (state : State) → AreSame walk other state
    → AreSame (named scope enter walk found name place) (named scope enter other found name place) state
named_same scope enter walk other (Some (kind.Builtin o)) name place state same course = built_in_same scope enter walk other o place state same course
named_same scope enter walk other (Some _) name place state same course = refl
named_same scope enter walk other None name place state same course = refl

entering_same : (scope : Scope) (walk other : Onward) (found : Option Kind) (name : NameId) (place : Place) (state : State) → AreSame walk other state
    → AreSame (entering scope walk found name place) (entering scope other found name place) state
entering_same scope walk other found name place state same course =
    elim (is_wizard found) as (λ (t : Bool). cond t (walk state course) (entered scope place (Named name) walk state course)
    ≡ cond t (other state course) (entered scope place (Named name) other state course)) [
      | true ↦ same course
      | false ↦ entered_same scope place (Named name) walk other state same course
    ]

name_same : (scope : Scope) (enter : Enter) (walk other : Onward) (place : Place) (name : NameId) (state : State) → AreSame walk other state
    → AreSame (name_entered scope enter walk place name) (name_entered scope enter other place name) state
name_same scope enter walk other place name state same course =
    let found = kind_of scope.style name in
    elim (counts 1 place course) as (λ (w : Walk). then_do w (entering scope (named scope enter walk found name place) found name place state)
    ≡ then_do w (entering scope (named scope enter other found name place) found name place state)) [
      | Ok counted ↦ entering_same scope (named scope enter walk found name place) (named scope enter other found name place) found name place state
          (named_same scope enter walk other found name place state same) counted
      | Err refusal ↦ refl
    ]

function_same : (scope : Scope) (enter : Enter) (walk other : Onward) (place : Place) (target : Option Target) (state : State) → AreSame walk other state
    → AreSame (function_entered scope enter (name_entered scope enter walk place) place target) (function_entered scope enter (name_entered scope enter other place) place target) state
function_same scope enter walk other place None state same course = refl
function_same scope enter walk other place (Some (Named name)) state same course = name_same scope enter walk other place name state same course
function_same scope enter walk other place (Some (Block body)) state same course = refl

-- `if$` in cases with one stack
abbrev pub by_own_stack : Scope → Enter → Place → Call
by_own_stack scope enter place = name_entered scope enter (chosen_in scope enter place) place

cases_same : (scope : Scope) (enter : Enter) (place : Place) (three : Three) (rest : List Sym) (cases : List (Bool × State)) (course : Course)
    → All (λ one. one.1.stack ≡ reverse rest) cases
    → cases_entered scope enter (name_entered scope enter (if_else scope enter place rest) place) place three cases course
    ≡ cases_entered scope enter (by_own_stack scope enter place) place three cases course
cases_same scope enter place three rest [] course all = refl
cases_same scope enter place three rest (case ∷ cases) course all =
    let target = exact_target scope.style case.1 (cond case.0 three.middle three.top) in
    let call = name_entered scope enter (if_else scope enter place rest) place in
    let own = by_own_stack scope enter place in
    let stack : rest ≡ reverse case.1.stack =
    sym (ap (λ (l : List Sym). reverse l) (All-head (λ (one : Bool × State). one.1.stack ≡ reverse rest) case cases all) ∙ reverse-reverse rest) in
    let same : AreSame (if_else scope enter place rest) (chosen_in scope enter place) case.1 =
    λ later. ap (λ (l : List Sym). if_else scope enter place l case.1 later) stack in
    let here = function_same scope enter (if_else scope enter place rest) (chosen_in scope enter place) place target case.1 same course in
    let under = All-tail (λ (one : Bool × State). one.1.stack ≡ reverse rest) case cases all in
    ap (λ (w : Walk). then_do w (cases_entered scope enter call place three cases)) here
    ∙ elim (function_entered scope enter own place target case.1 course) as (λ (w : Walk). then_do w (cases_entered scope enter call place three cases)
    ≡ then_do w (cases_entered scope enter own place three cases)) [
      | Ok later ↦ cases_same scope enter place three rest cases later under
      | Err refusal ↦ refl
    ]

choice_same : (scope : Scope) (enter : Enter) (place : Place) (three : Three) (rest : List Sym) (course : Course) (w : Result Labelled Refusal)
    → placed place (above_of scope.cert.cond three.rest three.lowest (hints_of_choice scope three course)) ≡ w → three.rest.stack ≡ reverse rest
    → then_do w (λ labelled. cases_entered scope enter (name_entered scope enter (if_else scope enter place rest) place) place three labelled.cases
    (behind (hints_of_choice scope three course) labelled.hints course))
    ≡ then_do w (λ labelled. cases_entered scope enter (by_own_stack scope enter place) place three labelled.cases
    (behind (hints_of_choice scope three course) labelled.hints course))
choice_same scope enter place three rest course (Ok labelled) e is =
    let hints = hints_of_choice scope three course in
    let stacks = above_stacks scope.cert.cond three.rest three.lowest hints labelled (placed_ok place _ labelled e) in
    cases_same scope enter place three rest labelled.cases (behind hints labelled.hints course)
    (subst (λ (stack : List Sym). All (λ one. one.1.stack ≡ stack) labelled.cases) is stacks)
choice_same scope enter place three rest course (Err refusal) e is = refl

three_same : (scope : Scope) (enter : Enter) (place : Place) (c b a : Sym) (rest : List Sym) (state : State) (course : Course) (w : Result Three Refusal)
    → placed place (three_by Int Func Func (c ∷ (b ∷ (a ∷ rest))) state) ≡ w
    → then_do w (λ three. choice scope enter (name_entered scope enter (if_else scope enter place rest) place) place three course)
    ≡ then_do w (λ three. choice scope enter (by_own_stack scope enter place) place three course)
three_same scope enter place c b a rest state course (Ok three) e =
    let met = three_ok state a b c rest three (placed_ok place (three_by Int Func Func (c ∷ (b ∷ (a ∷ rest))) state) three e) in
    choice_same scope enter place three rest course _ refl (ap (λ (t : Three). t.rest.stack) met.is)
three_same scope enter place c b a rest state course (Err refusal) e = refl

by_stack : (scope : Scope) (enter : Enter) (place : Place) (stack : List Sym) (state : State) (course : Course)
    → if_else scope enter place stack state course ≡ chosen scope enter (by_own_stack scope enter place) place stack state course
by_stack scope enter place [] state course = refl
by_stack scope enter place (c ∷ []) state course = refl
by_stack scope enter place (c ∷ (b ∷ [])) state course = refl
by_stack scope enter place (c ∷ (b ∷ (a ∷ rest))) state course = three_same scope enter place c b a rest state course _ refl

-- `if$` enters another by the stack of its case
pub chosen_own : (scope : Scope) (enter : Enter) (place : Place) (state : State) (course : Course)
    → chosen_in scope enter place state course ≡ chosen scope enter (by_own_stack scope enter place) place (reverse state.stack) state course
chosen_own scope enter place state course = by_stack scope enter place (reverse state.stack) state course

-- a body is walked one body deeper
pub one_deeper : (scope : Scope) (more : ℕ) (place : Place) (body : BodyId) (state : State) (course : Course) → 0 < more
    → body_walked scope more place body state course
    ≡ then_do (walked scope (body_walked scope (more - 1)) (tokens_of scope.style body) (record course { given = state ∷ [] }))
    (λ inner. gives_all place inner.given (record inner { given = course.given }))
one_deeper scope zero place body state course some = absurd (omega (arith, some))
one_deeper scope (suc more) place body state course some =
    let less : more ≡ suc more - 1 = omega arith in
    ap (λ (n : ℕ). then_do (walked scope (body_walked scope n) (tokens_of scope.style body) (record course { given = state ∷ [] }))
    (λ inner. gives_all place inner.given (record inner { given = course.given }))) less
