-- A test that has cases takes as many hints as it needs.
use Rattle.std.proofs.Common.{◌≡◌, ℕ, ◌≤◌, Bool, true, false, cond, List, [], ◌∷◌, Option, None, Some, Result, Ok, Err, length, length-drop, drop, drop-drop, map, reverse, refl, sym, ap, subst, ◌∙◌, arith}
use Rattle.std.specs.Prelude.{ℤ}
use Rattle.std.specs.List.{All}
use Rattle.std.proofs.lemmas.List.Elements.{All-drop}
use Rattle.lin_facts.specs.declared.row.Row.{Row}
use Rattle.bst_meaning.specs.declared.condition.Cond.{Cond}
use Rattle.sym_state.specs.declared.demand.DemandKind.TheVariants.{WrongKind}
use Rattle.sym_state.specs.declared.hint.Hint.{Hint}
use Rattle.sym_state.specs.State.{State}
use Rattle.sym_state.specs.declared.symbol.Fact.{Fact}
use Rattle.sym_state.specs.declared.symbol.Kinds.{Kinds}
use Rattle.sym_state.specs.declared.symbol.Kinds.TheVariants.{Any, Int, Missing, Optional, Str}
use Rattle.sym_state.specs.declared.symbol.Sym.{Sym}
use Rattle.sym_state.specs.declared.test.Test.{Test}
use Rattle.sym_state.specs.declared.test.Test.TheVariants.{Above, Empty, Equal, Greater, Less, Missing as IsMissing}
use Rattle.sym_state.specs.Cases.{Cases, Labelled, above_of, at_least_rows, empty_cases, equal_by, equal_decided, equal_rows, given, hints_of, hints_on, integer_cases, less_cases, less_decided, less_rows, missing_cases, needs_of, passed_both, split_of, text_cases, texts_decided, weighed_both, without_labels}
use Rattle.sym_state.specs.Decided.{emptiness_said, exact_integer, first_said, includes, known_kind}
use Rattle.sym_state.specs.declared.demand.EffectFault.{EffectFault}
use Rattle.sym_state.specs.Demands.{One, Two, demand, fails, is_of_kind, two_by, two_of}
use Rattle.sym_state.proofs.Ensured.{one_taken, two_taken}
use Rattle.refinements.proofs.Covering.{both_weighed, weighed_is}
use Rattle.refinements.proofs.Labels.{labels_dropped, sign_cases}
use Rattle.refinements.proofs.Taking.{taken_one, taken_two}

-- so many hints are taken, and the others are left
pub record Took (n : ℕ) (hints : List Hint) (cases : Cases) : Type 0 where
  pub there : n ≤ length hints
  pub left : cases.hints ≡ drop n hints

none_took : (states : List State) (hints : List Hint) (cases : Cases) → given states hints ≡ Ok cases → Took 0 hints cases
none_took states hints cases e =
    let same : record { states = states; hints = hints } ≡ cases = cc in
    record { there = omega arith; left = sym (ap (λ (c : Cases). c.hints) same) }

both_took : (admits : Cond) (first second : State) (hints : List Hint) (cases : Cases) → weighed_both admits first second hints ≡ Ok cases
    → Took 2 hints cases
both_took admits first second hints cases e =
    let two = both_weighed admits first second hints cases e in
    let a = weighed_is admits first hints two.one two.first_weighed in
    let b = weighed_is admits second two.one.hints two.other two.second_weighed in
    let long = ap length a.left ∙ length-drop 1 hints in
    let some = a.there in
    record { there = omega (arith, b.there); left = two.left ∙ b.left ∙ ap (drop 1) a.left ∙ drop-drop 1 1 hints }

integer_took : (admits : Cond) (found : Option Bool) (holds refuted : List Row) (rest : State) (hints : List Hint) (cases : Cases)
    → integer_cases admits found holds refuted rest hints ≡ Ok cases → Took (hints_of found) hints cases
integer_took admits (Some answer) holds refuted rest hints cases e = none_took _ hints cases e
integer_took admits None holds refuted rest hints cases e = both_took admits _ _ hints cases e

text_took : (found : Option Bool) (facts : List Fact) (rest : State) (hints : List Hint) (cases : Cases)
    → text_cases found facts rest hints ≡ Ok cases → Took 0 hints cases
text_took (Some answer) facts rest hints cases e = none_took _ hints cases e
text_took None facts rest hints cases e = none_took _ hints cases e

-- the hints of a test on two symbols that are on top
needed : (state : State) (rule : Sym → Sym → Option Bool) (a b : Sym) (rest : List Sym) → reverse state.stack ≡ b ∷ (a ∷ rest)
    → is_of_kind state Int b ≡ true → is_of_kind state Int a ≡ true → hints_on rule (two_of Int Int state) ≡ hints_of (rule a b)
needed state rule a b rest tops upper lower =
    let last : Result Two EffectFault = Ok (taken_two a b rest state) in
    ap (λ (l : List Sym). hints_on rule (two_by Int Int l state)) tops
    ∙ ap (λ (t : Bool). hints_on rule (demand t WrongKind 1 (demand (is_of_kind state Int a) WrongKind 2 last))) upper
    ∙ ap (λ (t : Bool). hints_on rule (demand t WrongKind 2 last)) lower

not_needed : (state : State) (rule : Sym → Sym → Option Bool) (a b : Sym) (rest : List Sym) → reverse state.stack ≡ b ∷ (a ∷ rest)
    → is_of_kind state Int b ≡ false → hints_on rule (two_of Int Int state) ≡ 0
not_needed state rule a b rest tops upper =
    ap (λ (l : List Sym). hints_on rule (two_by Int Int l state)) tops
    ∙ ap (λ (t : Bool). hints_on rule (demand t WrongKind 1 (demand (is_of_kind state Int a) WrongKind 2 (Ok (taken_two a b rest state))))) upper

equal_took : (admits : Cond) (state : State) (kind : Kinds) (a b : Sym) (rest : List Sym) (hints : List Hint) (cases : Cases)
    → reverse state.stack ≡ b ∷ (a ∷ rest) → known_kind state.facts b.0 ≡ kind
    → equal_by admits state kind (taken_two a b rest state) hints ≡ Ok cases → Took (needs_of state Equal) hints cases
equal_took admits state Int a b rest hints cases tops is e = by (is_of_kind state Int a) refl e
  where
    by : (t : Bool) → is_of_kind state Int a ≡ t
        → cond t (integer_cases admits (equal_decided state.facts a b) (equal_rows a b) [] (taken_two a b rest state).rest hints) (Err (fails WrongKind 2)) ≡ Ok cases
        → Took (needs_of state Equal) hints cases
    by true lower e =
        subst (λ (n : ℕ). Took n hints cases) (sym (needed state (equal_decided state.facts) a b rest tops (ap (includes Int) is) lower))
        (integer_took admits (equal_decided state.facts a b) (equal_rows a b) [] (taken_two a b rest state).rest hints cases e)
    by false lower e = absurd (cc)
equal_took admits state Str a b rest hints cases tops is e = by (is_of_kind state Str a) e
  where
    by : (t : Bool)
        → cond t (text_cases (texts_decided state.facts a b) (passed_both state.facts a b) (taken_two a b rest state).rest hints) (Err (fails WrongKind 2)) ≡ Ok cases
        → Took (needs_of state Equal) hints cases
    by true e =
        subst (λ (n : ℕ). Took n hints cases) (sym (not_needed state (equal_decided state.facts) a b rest tops (ap (includes Int) is)))
        (text_took (texts_decided state.facts a b) (passed_both state.facts a b) (taken_two a b rest state).rest hints cases e)
    by false e = absurd (cc)
equal_took admits state _ a b rest hints cases tops is e = absurd (cc)

empty_took : (found : Option Bool) (one : One) (hints : List Hint) (cases : Cases) → empty_cases found one hints ≡ Ok cases → Took 0 hints cases
empty_took (Some answer) one hints cases e = none_took _ hints cases e
empty_took None one hints cases e = none_took _ hints cases e

missing_took : (kind : Kinds) (one : One) (hints : List Hint) (cases : Cases) → missing_cases kind one hints ≡ Ok cases → Took 0 hints cases
missing_took Missing one hints cases e = none_took _ hints cases e
missing_took Str one hints cases e = none_took _ hints cases e
missing_took _ one hints cases e = none_took _ hints cases e

above_took : (admits : Cond) (state : State) (s : Sym) (found : Option ℤ) (hints : List Hint) (cases : Cases)
    → sign_cases admits state s found hints ≡ Ok cases → Took (hints_of found) hints cases
above_took admits state s (Some n) hints cases e = none_took _ hints cases e
above_took admits state s None hints cases e = both_took admits _ _ hints cases e

less_took : (admits : Cond) (state : State) (a b : Sym) (rest : State) (hints : List Hint) (cases : Cases) {n : ℕ} → n ≡ hints_of (less_decided state.facts a b)
    → less_cases admits state.facts a b rest hints ≡ Ok cases → Took n hints cases
less_took admits state a b rest hints cases is e =
    subst (λ (n : ℕ). Took n hints cases) (sym is) (integer_took admits (less_decided state.facts a b) (less_rows a b) (at_least_rows a b) rest hints cases e)

-- a test that has cases takes the hints that it needs, and leaves the others
pub test_took : (admits : Cond) (state : State) (test : Test) (hints : List Hint) (cases : Cases)
    → split_of admits state test hints ≡ Ok cases → Took (needs_of state test) hints cases
test_took admits state Empty hints cases e =
    let f = one_taken Optional state (λ one. empty_cases (first_said emptiness_said one.operand.0 state.facts) one hints) cases e in
    empty_took (first_said emptiness_said f.a.0 state.facts) (taken_one f.a f.rest state) hints cases f.given
test_took admits state IsMissing hints cases e =
    let f = one_taken Optional state (λ one. missing_cases (known_kind state.facts one.operand.0) one hints) cases e in
    missing_took (known_kind state.facts f.a.0) (taken_one f.a f.rest state) hints cases f.given
test_took admits state Equal hints cases e =
    let f = two_taken Any Any state (λ two. equal_by admits state (known_kind state.facts two.upper.0) two hints) cases e in
    equal_took admits state (known_kind state.facts f.b.0) f.a f.b f.rest hints cases f.tops refl f.given
test_took admits state Less hints cases e =
    let f = two_taken Int Int state (λ two. less_cases admits state.facts two.lower two.upper two.rest hints) cases e in
    less_took admits state f.a f.b (taken_two f.a f.b f.rest state).rest hints cases
    (needed state (less_decided state.facts) f.a f.b f.rest f.tops f.upper_met f.lower_met) f.given
test_took admits state Greater hints cases e =
    let f = two_taken Int Int state (λ two. less_cases admits state.facts two.upper two.lower two.rest hints) cases e in
    less_took admits state f.b f.a (taken_two f.a f.b f.rest state).rest hints cases
    (needed state (λ a b. less_decided state.facts b a) f.a f.b f.rest f.tops f.upper_met f.lower_met) f.given
test_took admits state (Above s) hints cases e =
    above_took admits state s (exact_integer state.facts s.0) hints cases (sym (labels_dropped admits state s (exact_integer state.facts s.0) hints) ∙ e)

-- what holds of all hints holds of those that are left
pub hints_keep : (P : Hint → Type 0) (admits : Cond) (state : State) (test : Test) (hints : List Hint) (cases : Cases)
    → split_of admits state test hints ≡ Ok cases → All P hints → All P cases.hints
hints_keep P admits state test hints cases e all =
    let took = test_took admits state test hints cases e in
    subst (λ (l : List Hint). All P l) (sym took.left) (All-drop P (needs_of state test) hints all)

pub labelled_hints_keep : (P : Hint → Type 0) (admits : Cond) (state : State) (s : Sym) (hints : List Hint) (all : Labelled)
    → above_of admits state s hints ≡ Ok all → All P hints → All P all.hints
labelled_hints_keep P admits state s hints all e fine =
    hints_keep P admits state (Above s) hints (record { states = map (λ one. one.1) all.cases; hints = all.hints }) (ap without_labels e) fine
