-- The cases of a test that takes hints have bounds, where its state has.
use Rattle.std.proofs.Common.{◌≡◌, suc, ◌+◌, ◌≤◌, ◌^◌, Bool, true, false, cond, List, [], ◌∷◌, reverse, Option, None, Some, Ok, Err, sym, ap, subst, ◌∙◌, arith}
use Rattle.std.specs.Prelude.{ℤ, pos}
use Rattle.std.specs.List.{All}
use Rattle.std.proofs.lemmas.List.Elements.{All-cons, All-nil}
use Rattle.lin_facts.specs.declared.row.Row.{Row}
use Rattle.lin_facts.specs.declared.row.Term.TheVariants.{Value}
use Rattle.bst_meaning.specs.declared.condition.Cond.{Cond}
use Rattle.sym_state.specs.Cases.{Cases, Split, at_least_rows, equal_by, equal_decided, equal_rows, given, integer_cases, less_cases, less_decided, less_rows, not_positive_rows, number_of, passed_both, positive_rows, split_of, text_cases, texts_decided, weighed_both, with_case, with_truth}
use Rattle.sym_state.specs.Decided.{exact_integer, known_kind}
use Rattle.sym_state.specs.Demands.{Two, fails, is_of_kind}
use Rattle.sym_state.specs.References.{at_least, at_most, exceeds}
use Rattle.sym_state.specs.Results.{next_of}
use Rattle.sym_state.specs.State.{State}
use Rattle.sym_state.specs.WellMade.{HasBounds, HasShortText, IsBounded, size}
use Rattle.sym_state.specs.declared.demand.DemandKind.TheVariants.{WrongKind}
use Rattle.sym_state.specs.declared.symbol.Fact.{Fact}
use Rattle.sym_state.specs.declared.symbol.Fact.TheVariants.{Int as IntFact, Is}
use Rattle.sym_state.specs.declared.symbol.Kinds.{Kinds}
use Rattle.sym_state.specs.declared.symbol.Kinds.TheVariants.{Any, Int, Str}
use Rattle.sym_state.specs.declared.symbol.Sym.{Sym}
use Rattle.sym_state.specs.declared.test.Test.{Test}
use Rattle.sym_state.specs.declared.test.Test.TheVariants.{Above, Empty, Equal, Greater, Less, Missing as IsMissing}
use Rattle.sym_state.proofs.Ensured.{two_taken}
use Rattle.sym_state.proofs.Resulting.{at_least_fits, at_most_fits, case_bounds, exceeds_fits}
use Rattle.refinements.proofs.HintsTaken.{test_took}
use Rattle.refinements.proofs.Labels.{labels_dropped, sign_cases}
use Rattle.refinements.proofs.Taking.{taken_two}
use Rattle.straight_hints.specs.Found.{both_kept}

abbrev AreBounded : Cases → Type 0
AreBounded cases = All HasBounds cases.states

-- a state with what a case adds, and with the answer on top
rows_added : (state : State) (rows : List Row) → HasBounds state → All IsBounded rows → HasBounds (with_case [] rows state)
rows_added state rows bounds fits = case_bounds state [] rows bounds (All-nil HasShortText) fits

truth_added : (answer : Bool) (state : State) → HasBounds state → HasBounds (with_truth answer state)
truth_added answer state bounds =
    let exact : Fact = IntFact (next_of state) (number_of answer) in
    let more = case_bounds state (Is (next_of state) Int ∷ (exact ∷ [])) [] bounds
    (All-cons HasShortText (Is (next_of state) Int) (exact ∷ []) tt (All-cons HasShortText exact [] tt (All-nil HasShortText))) (All-nil IsBounded) in
    record { facts = more.facts; rows = more.rows }

truth_case : (answer : Bool) (state : State) (rows : List Row) → HasBounds state → All IsBounded rows → HasBounds (with_truth answer (with_case [] rows state))
truth_case answer state rows bounds fits = truth_added answer (with_case [] rows state) (rows_added state rows bounds fits)

-- the rows that cases add
row_alone : (row : Row) → IsBounded row → All IsBounded (row ∷ [])
row_alone row fits = All-cons IsBounded row [] fits (All-nil IsBounded)

exceeding : (a b : Sym) (n : ℤ) → size n ≤ 2 ^ 45 → IsBounded (exceeds (Value a.0) (Value b.0) n)
exceeding a b n few = (exceeds_fits (suc (a.0 + b.0)) (Value a.0) (Value b.0) n (omega arith) (omega arith) few).bounded

equality : (a b : Sym) → All IsBounded (equal_rows a b)
equality a b =
    All-cons IsBounded (exceeds (Value a.0) (Value b.0) (pos 0)) (exceeds (Value b.0) (Value a.0) (pos 0) ∷ []) (exceeding a b (pos 0) (omega arith))
    (row_alone (exceeds (Value b.0) (Value a.0) (pos 0)) (exceeding b a (pos 0) (omega arith)))

positive : (s : Sym) → All IsBounded (positive_rows s)
positive s = row_alone (at_least (Value s.0) (pos 1)) (at_least_fits (suc s.0) (Value s.0) (pos 1) (omega arith) (omega arith)).bounded

not_positive : (s : Sym) → All IsBounded (not_positive_rows s)
not_positive s = row_alone (at_most (Value s.0) (pos 0)) (at_most_fits (suc s.0) (Value s.0) (pos 0) (omega arith) (omega arith)).bounded

-- hints that are left weren't taken
untaken : (states : List State) (cases : Cases) → given states both_kept ≡ Ok cases → cases.hints ≡ [] → AreBounded cases
untaken states cases e none =
    let same : record { states = states; hints = both_kept } ≡ cases = cc in
    let left : both_kept ≡ [] = ap (λ (c : Cases). c.hints) same ∙ none in
    absurd (cc)

-- both cases of a test that takes hints
both_bounded : (admits : Cond) (first second : State) (cases : Cases) → HasBounds first → HasBounds second
    → weighed_both admits first second both_kept ≡ Ok cases → AreBounded cases
both_bounded admits first second cases one other e =
    let same : record { states = first ∷ (second ∷ []); hints = [] } ≡ cases = cc in
    subst AreBounded same (All-cons HasBounds first (second ∷ []) one (All-cons HasBounds second [] other (All-nil HasBounds)))

integers_bounded : (admits : Cond) (found : Option Bool) (holds refuted : List Row) (rest : State) (cases : Cases) → HasBounds rest
    → All IsBounded holds → All IsBounded refuted → integer_cases admits found holds refuted rest both_kept ≡ Ok cases → cases.hints ≡ [] → AreBounded cases
integers_bounded admits (Some answer) holds refuted rest cases bounds one other e none = untaken (with_truth answer rest ∷ []) cases e none
integers_bounded admits None holds refuted rest cases bounds one other e none =
    both_bounded admits (with_truth true (with_case [] holds rest)) (with_truth false (with_case [] refuted rest)) cases
    (truth_case true rest holds bounds one) (truth_case false rest refuted bounds other) e

texts_untaken : (found : Option Bool) (facts : List Fact) (rest : State) (cases : Cases) → text_cases found facts rest both_kept ≡ Ok cases
    → cases.hints ≡ [] → AreBounded cases
texts_untaken (Some answer) facts rest cases e none = untaken (with_truth answer rest ∷ []) cases e none
texts_untaken None facts rest cases e none = untaken (with_truth true (with_case facts [] rest) ∷ (with_truth false (with_case [] [] rest) ∷ [])) cases e none

less_bounded : (admits : Cond) (facts : List Fact) (a b : Sym) (rest : State) (cases : Cases) → HasBounds rest
    → less_cases admits facts a b rest both_kept ≡ Ok cases → cases.hints ≡ [] → AreBounded cases
less_bounded admits facts a b rest cases bounds e none =
    integers_bounded admits (less_decided facts a b) (less_rows a b) (at_least_rows a b) rest cases bounds
    (row_alone (exceeds (Value b.0) (Value a.0) (pos 1)) (exceeding b a (pos 1) (omega arith)))
    (row_alone (exceeds (Value a.0) (Value b.0) (pos 0)) (exceeding a b (pos 0) (omega arith))) e none

equal_bounded : (admits : Cond) (state : State) (kind : Kinds) (two : Two) (cases : Cases) → HasBounds two.rest
    → equal_by admits state kind two both_kept ≡ Ok cases → cases.hints ≡ [] → AreBounded cases
equal_bounded admits state Int two cases bounds e none =
    let test : Option Bool = equal_decided state.facts two.lower two.upper in
    let all : Split = integer_cases admits test (equal_rows two.lower two.upper) [] two.rest both_kept in
    elim (is_of_kind state Int two.lower) as (λ (t : Bool). cond t all (Err (fails WrongKind 2)) ≡ Ok cases → AreBounded cases) [
      | true ↦ λ found. integers_bounded admits test (equal_rows two.lower two.upper) [] two.rest cases bounds
          (equality two.lower two.upper) (All-nil IsBounded) found none
      | false ↦ λ found. absurd (cc)
    ] e
equal_bounded admits state Str two cases bounds e none =
    let test : Option Bool = texts_decided state.facts two.lower two.upper in
    let all : Split = text_cases test (passed_both state.facts two.lower two.upper) two.rest both_kept in
    elim (is_of_kind state Str two.lower) as (λ (t : Bool). cond t all (Err (fails WrongKind 2)) ≡ Ok cases → AreBounded cases) [
      | true ↦ λ found. texts_untaken test (passed_both state.facts two.lower two.upper) two.rest cases found none
      | false ↦ λ found. absurd (cc)
    ] e
equal_bounded admits state _ two cases bounds e none = absurd (cc)

above_bounded : (admits : Cond) (state : State) (s : Sym) (found : Option ℤ) (cases : Cases) → HasBounds state
    → sign_cases admits state s found both_kept ≡ Ok cases → cases.hints ≡ [] → AreBounded cases
above_bounded admits state s (Some n) cases bounds e none = untaken (state ∷ []) cases e none
above_bounded admits state s None cases bounds e none =
    both_bounded admits (with_case [] (positive_rows s) state) (with_case [] (not_positive_rows s) state) cases
    (rows_added state (positive_rows s) bounds (positive s)) (rows_added state (not_positive_rows s) bounds (not_positive s)) e

-- a test of which no hint is left
no_needs : (cases : Cases) → cases.hints ≡ both_kept → cases.hints ≡ [] → AreBounded cases
no_needs cases left none = let same : both_kept ≡ [] = sym left ∙ none in absurd (cc)

stack_taken : (state : State) (rest : List Sym) → HasBounds state → HasBounds (record state { stack = reverse rest })
stack_taken state rest bounds = record { facts = bounds.facts; rows = bounds.rows }

-- each case of a test of which no hint is left
pub cases_bounded : (admits : Cond) (state : State) (test : Test) (cases : Cases) → HasBounds state
    → split_of admits state test both_kept ≡ Ok cases → cases.hints ≡ [] → All HasBounds cases.states
cases_bounded admits state Empty cases bounds e none = no_needs cases (test_took admits state Empty both_kept cases e).left none
cases_bounded admits state IsMissing cases bounds e none = no_needs cases (test_took admits state IsMissing both_kept cases e).left none
cases_bounded admits state Equal cases bounds e none =
    let f = two_taken Any Any state (λ two. equal_by admits state (known_kind state.facts two.upper.0) two both_kept) cases e in
    equal_bounded admits state (known_kind state.facts f.b.0) (taken_two f.a f.b f.rest state) cases (stack_taken state f.rest bounds) f.given none
cases_bounded admits state Less cases bounds e none =
    let f = two_taken Int Int state (λ two. less_cases admits state.facts two.lower two.upper two.rest both_kept) cases e in
    less_bounded admits state.facts f.a f.b (taken_two f.a f.b f.rest state).rest cases (stack_taken state f.rest bounds) f.given none
cases_bounded admits state Greater cases bounds e none =
    let f = two_taken Int Int state (λ two. less_cases admits state.facts two.upper two.lower two.rest both_kept) cases e in
    less_bounded admits state.facts f.b f.a (taken_two f.a f.b f.rest state).rest cases (stack_taken state f.rest bounds) f.given none
cases_bounded admits state (Above s) cases bounds e none =
    above_bounded admits state s (exact_integer state.facts s.0) cases bounds
    (sym (labels_dropped admits state s (exact_integer state.facts s.0) both_kept) ∙ e) none
