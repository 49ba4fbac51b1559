-- The cases of a test on a state (docs/EFFECTS.md, "Cases"): that of 1 or of a number above 0 first, then that of 0. A test that is
-- decided has one case. Each case of an undecided test on integers takes a hint: it is kept, or dropped where it can't come about.
-- The cases of whether an integer is above 0 have labels, so that one that is left alone tells which it is.
use Rattle.std.specs.Prelude.{ℕ, ◌<◌, ℤ, pos, negsuc, ◌-ℤ◌, Bool, true, false, nat_eq, if◌then◌else◌, List, [], ◌∷◌, ◌++◌, map, Option, None, Some, Result, Ok, Err}
use Rattle.std.specs.Cmp.Lexicographic.{pointwise}
use Rattle.bv_base.specs.Answers.{then_do}
use Rattle.lin_facts.specs.declared.row.Row.{Row}
use Rattle.lin_facts.specs.declared.row.Term.TheVariants.{Value}
use Rattle.bst_meaning.specs.Operands.{is_positive, is_zero}
use Rattle.bst_meaning.specs.declared.condition.Cond.{Cond}
use Rattle.sym_state.specs.declared.demand.DemandKind.TheVariants.{WrongKind}
use Rattle.sym_state.specs.declared.demand.EffectFault.{EffectFault}
use Rattle.sym_state.specs.declared.demand.EffectFault.TheVariants.{NotEntailed, HintsShort, WrongHint}
use Rattle.sym_state.specs.declared.hint.Hint.{Hint}
use Rattle.sym_state.specs.declared.hint.Hint.TheVariants.{Keep, Drop}
use Rattle.sym_state.specs.State.{State}
use Rattle.sym_state.specs.declared.symbol.Sym.{Sym}
use Rattle.sym_state.specs.declared.test.Test.{Test}
use Rattle.sym_state.specs.declared.test.Test.TheVariants.{Empty, Missing as IsMissing, Equal, Less, Greater, Above}
use Rattle.sym_state.specs.declared.symbol.Fact.{Fact}
use Rattle.sym_state.specs.declared.symbol.Fact.TheVariants.{Is, Int as IntFact, Text as TextFact, Blank, Nonblank}
use Rattle.sym_state.specs.declared.symbol.Kinds.{Kinds}
use Rattle.sym_state.specs.declared.symbol.Kinds.TheVariants.{Int, Str, Missing, Optional, Any}
use Rattle.sym_state.specs.Decided.{emptiness_said, exact_integer, exact_text, first_said, known_kind}
use Rattle.sym_state.specs.Demands.{One, Two, demand, fails, is_of_kind, one_of, two_of}
pub use Rattle.sym_state.specs.Demands.{HasFewUses}
use Rattle.sym_state.specs.References.{at_least, at_most, exceeds, shows}
use Rattle.sym_state.specs.Results.{next_of, row, with_result}

-- the states of the cases that are kept, and the hints that are left
pub record Cases : Type 0 where
  pub states : List State
  pub hints : List Hint

-- those, or why the test has none
abbrev pub Split : Type 0
Split = Result Cases EffectFault

-- the cases of a test, where no hint is taken any more
abbrev pub given : List State → List Hint → Split
given states hints = Ok (record { states = states; hints = hints })

-- a state with what a case adds: facts and rows
abbrev pub with_case : List Fact → List Row → State → State
with_case facts rows state = record state { facts = state.facts ++ facts; rows = state.rows ++ rows }

-- a built-in test's result: 1 or 0
abbrev pub number_of : Bool → ℤ
number_of true = pos 1
number_of false = pos 0

-- it is on top
abbrev pub with_truth : Bool → State → State
with_truth answer state = with_result Int (IntFact (next_of state) (number_of answer) ∷ []) [] state

-- one case, since the test is decided
abbrev pub decided : Bool → State → List Hint → Split
decided answer rest hints = given (with_truth answer rest ∷ []) hints

-- both cases, which take no hint
abbrev pub both : List Fact → List Fact → State → List Hint → Split
both holds fails rest hints =
    given (with_truth true (with_case holds [] rest) ∷ with_truth false (with_case fails [] rest) ∷ []) hints

-- nothing holds: -1 is at least 0
abbrev pub absurdity : Row
absurdity = row (negsuc 0) []

-- the next hint keeps a case, or drops it by a proof that it can't come about
abbrev pub weighed_by : Cond → State → Hint → List Hint → Split
weighed_by cond state Keep hints = given (state ∷ []) hints
weighed_by cond state (Drop proof) hints = if shows cond state proof absurdity then given [] hints else Err (NotEntailed 0)
weighed_by cond state hint hints = Err WrongHint

-- the same, where the hint is the first of a list
abbrev pub weighed : Cond → State → List Hint → Split
weighed cond state [] = Err HintsShort
weighed cond state (hint ∷ hints) = weighed_by cond state hint hints

-- two cases, each of which takes a hint
abbrev pub weighed_both : Cond → State → State → List Hint → Split
weighed_both cond first second hints =
    then_do (weighed cond first hints) (λ one. then_do (weighed cond second one.hints) (λ other. given (one.states ++ other.states) other.hints))

-- `empty$`
abbrev pub empty_cases : Option Bool → One → List Hint → Split
empty_cases (Some answer) one hints = decided answer one.rest hints
empty_cases None one hints =
    both (Blank one.operand ∷ []) (Is one.operand Str ∷ Nonblank one.operand ∷ []) one.rest hints

-- it takes a string or a missing field
abbrev pub empty : State → List Hint → Split
empty state hints = then_do (one_of Optional state) (λ one. empty_cases (first_said emptiness_said one.operand.0 state.facts) one hints)

-- `missing$`
abbrev pub missing_cases : Kinds → One → List Hint → Split
missing_cases Missing one hints = decided true one.rest hints
missing_cases Str one hints = decided false one.rest hints
missing_cases _ one hints = both (Is one.operand Missing ∷ []) (Is one.operand Str ∷ []) one.rest hints

-- it takes the same
abbrev pub missing : State → List Hint → Split
missing state hints = then_do (one_of Optional state) (λ one. missing_cases (known_kind state.facts one.operand.0) one hints)

-- the answer of a test on two values that are both known
abbrev pub answer : {X : Type 0} → (X → X → Bool) → Option X → Option X → Option Bool
answer test (Some a) (Some b) = Some (test a b)
answer test _ _ = None

-- the answer where both are one symbol, and else what is known
abbrev pub answer_of : Bool → Bool → Option Bool → Option Bool
answer_of true reflexive known = Some reflexive
answer_of false reflexive known = known

-- a test on two integers, which is that of one symbol twice: whether it is decided
abbrev pub integers_decided : (ℤ → ℤ → Bool) → Bool → List Fact → Sym → Sym → Option Bool
integers_decided test reflexive facts a b =
    answer_of (nat_eq a.0 b.0) reflexive (answer test (exact_integer facts a.0) (exact_integer facts b.0))

-- two integers are equal
abbrev pub is_equal : ℤ → ℤ → Bool
is_equal x y = is_zero (x -ℤ y)

-- the first of two integers is less
abbrev pub is_less : ℤ → ℤ → Bool
is_less x y = is_positive (y -ℤ x)

-- whether `=` of two integers is decided: a symbol is equal to itself
abbrev pub equal_decided : List Fact → Sym → Sym → Option Bool
equal_decided facts a b = integers_decided is_equal true facts a b

-- whether `<` is: no symbol is less than itself
abbrev pub less_decided : List Fact → Sym → Sym → Option Bool
less_decided facts a b = integers_decided is_less false facts a b

-- the cases of a test on integers, with the rows of each
abbrev pub integer_cases : Cond → Option Bool → List Row → List Row → State → List Hint → Split
integer_cases cond (Some answer) holds fails rest hints = decided answer rest hints
integer_cases cond None holds fails rest hints =
    weighed_both cond (with_truth true (with_case [] holds rest)) (with_truth false (with_case [] fails rest)) hints

-- the rows of two symbols: the first is less, it is at least the second, and both are equal
abbrev pub less_rows : Sym → Sym → List Row
less_rows a b = exceeds (Value b.0) (Value a.0) (pos 1) ∷ []

-- the first is at least the second
abbrev pub at_least_rows : Sym → Sym → List Row
at_least_rows a b = exceeds (Value a.0) (Value b.0) (pos 0) ∷ []

-- both are equal
abbrev pub equal_rows : Sym → Sym → List Row
equal_rows a b = exceeds (Value a.0) (Value b.0) (pos 0) ∷ exceeds (Value b.0) (Value a.0) (pos 0) ∷ []

-- the cases of whether the first of two integers is less
abbrev pub less_cases : Cond → List Fact → Sym → Sym → State → List Hint → Split
less_cases cond facts a b rest hints = integer_cases cond (less_decided facts a b) (less_rows a b) (at_least_rows a b) rest hints

-- `<`
abbrev pub less : Cond → State → List Hint → Split
less cond state hints = then_do (two_of Int Int state) (λ two. less_cases cond state.facts two.lower two.upper two.rest hints)

-- `>`: the second is less
abbrev pub greater : Cond → State → List Hint → Split
greater cond state hints = then_do (two_of Int Int state) (λ two. less_cases cond state.facts two.upper two.lower two.rest hints)

-- `=` of two strings: in the case of 1 a text that one has exactly passes to the other
abbrev pub texts_decided : List Fact → Sym → Sym → Option Bool
texts_decided facts a b =
    answer_of (nat_eq a.0 b.0) true (answer (pointwise nat_eq) (exact_text facts a.0) (exact_text facts b.0))

-- an exact text as a fact on another symbol
abbrev pub passed : Option (List ℕ) → Sym → List Fact
passed None s = []
passed (Some text) s = TextFact s text ∷ []

-- the exact text of each as a fact on the other
abbrev pub passed_both : List Fact → Sym → Sym → List Fact
passed_both facts a b = passed (exact_text facts a.0) b ++ passed (exact_text facts b.0) a

-- the cases of `=` of two strings, with the facts of that of 1
abbrev pub text_cases : Option Bool → List Fact → State → List Hint → Split
text_cases (Some answer) facts rest hints = decided answer rest hints
text_cases None facts rest hints = both facts [] rest hints

-- `=`: two integers or two strings
abbrev pub equal_by : Cond → State → Kinds → Two → List Hint → Split
equal_by cond state Int two hints =
    demand (is_of_kind state Int two.lower) WrongKind 2
    (integer_cases cond (equal_decided state.facts two.lower two.upper) (equal_rows two.lower two.upper) [] two.rest hints)
equal_by cond state Str two hints =
    demand (is_of_kind state Str two.lower) WrongKind 2
    (text_cases (texts_decided state.facts two.lower two.upper) (passed_both state.facts two.lower two.upper) two.rest hints)
equal_by cond state _ two hints = Err (fails WrongKind 1)

-- it takes two integers or two strings, as the top one is
abbrev pub equal : Cond → State → List Hint → Split
equal cond state hints = then_do (two_of Any Any state) (λ two.
    equal_by cond state (known_kind state.facts two.upper.0) two hints)

-- whether an integer is above 0: nothing is taken from the stack or put on it
abbrev pub positive_rows : Sym → List Row
positive_rows s = at_least (Value s.0) (pos 1) ∷ []

-- it is at most 0
abbrev pub not_positive_rows : Sym → List Row
not_positive_rows s = at_most (Value s.0) (pos 0) ∷ []

-- the cases of that test that are kept, each with its label, which is whether the integer is above 0, and the hints that are left
pub record Labelled : Type 0 where
  pub cases : List (Bool × State)
  pub hints : List Hint

-- states with one label
abbrev pub with_label : Bool → List State → List (Bool × State)
with_label label states = map (λ state. (label, state)) states

-- the cases of that test: an exact integer has one, whose label is that of the integer
abbrev pub above_cases : Cond → State → Sym → Option ℤ → List Hint → Result Labelled EffectFault
above_cases cond state s (Some n) hints = Ok (record { cases = (is_positive n, state) ∷ []; hints = hints })
above_cases cond state s None hints =
    then_do (weighed cond (with_case [] (positive_rows s) state) hints) (λ one.
    then_do (weighed cond (with_case [] (not_positive_rows s) state) one.hints) (λ other.
    Ok (record { cases = with_label true one.states ++ with_label false other.states; hints = other.hints })))

-- the same of a symbol, whose integer may be known
abbrev pub above_of : Cond → State → Sym → List Hint → Result Labelled EffectFault
above_of cond state s hints = above_cases cond state s (exact_integer state.facts s.0) hints

-- cases without their labels
abbrev pub without_labels : Result Labelled EffectFault → Split
without_labels (Ok all) = given (map (λ one. one.1) all.cases) all.hints
without_labels (Err fault) = Err fault

-- the cases of each test
abbrev pub split_of : Cond → State → Test → List Hint → Split
split_of cond state Empty hints = empty state hints
split_of cond state IsMissing hints = missing state hints
split_of cond state Equal hints = equal cond state hints
split_of cond state Less hints = less cond state hints
split_of cond state Greater hints = greater cond state hints
split_of cond state (Above s) hints = without_labels (above_of cond state s hints)

-- two hints where a test isn't decided
abbrev pub hints_of : {X : Type 0} → Option X → ℕ
hints_of (Some x) = 0
hints_of None = 2

-- how many hints the cases of a test on two integers take: none where they aren't there
abbrev pub hints_on : (Sym → Sym → Option Bool) → Result Two EffectFault → ℕ
hints_on rule (Ok two) = hints_of (rule two.lower two.upper)
hints_on rule (Err fault) = 0

-- how many hints the cases of a test take
abbrev pub needs_of : State → Test → ℕ
needs_of state Equal = hints_on (equal_decided state.facts) (two_of Int Int state)
needs_of state Less = hints_on (less_decided state.facts) (two_of Int Int state)
needs_of state Greater = hints_on (λ a b. less_decided state.facts b a) (two_of Int Int state)
needs_of state (Above s) = hints_of (exact_integer state.facts s.0)
needs_of state _ = 0

-- the symbol that a test is about is one of the state's
abbrev pub IsTestOf : State → Test → Type 0
IsTestOf state (Above s) = s.0 < state.next
IsTestOf state _ = Unit {0}
