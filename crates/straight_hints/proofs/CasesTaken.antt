-- What is found for a test is what the test takes: nothing where it is decided or weighs no case, and else a hint for each case.
use Rattle.std.proofs.Common.{◌≡◌, ℤ, Bool, true, false, cond, List, [], ◌∷◌, ◌++◌, map, Option, None, Some, Result, Ok, Err, refl, sym, ap, subst, ◌∙◌}
use Rattle.bv_base.specs.Answers.{then_do}
use Rattle.bv_base.proofs.ThenLemmas.{ok, ok_is, then_ok}
use Rattle.lin_facts.specs.declared.row.Row.{Row}
use Rattle.bst_meaning.specs.declared.condition.Cond.{Cond}
use Rattle.sym_state.specs.Cases.{Cases, Labelled, Split, above_cases, above_of, absurdity, empty_cases, equal_by, equal_decided, equal_rows, given, integer_cases, less_cases, less_decided, less_rows, at_least_rows, missing_cases, not_positive_rows, passed_both, positive_rows, split_of, text_cases, texts_decided, weighed, weighed_both, weighed_by, with_case, with_label, with_truth, without_labels}
use Rattle.sym_state.specs.Decided.{emptiness_said, exact_integer, first_said, known_kind}
use Rattle.sym_state.specs.Demands.{One, Two, fails, is_of_kind, one_of, two_of}
use Rattle.sym_state.specs.References.{shows}
use Rattle.sym_state.specs.State.{State}
use Rattle.sym_state.specs.declared.demand.DemandKind.TheVariants.{WrongKind}
use Rattle.sym_state.specs.declared.demand.EffectFault.{EffectFault}
use Rattle.sym_state.specs.declared.demand.EffectFault.TheVariants.{NotEntailed}
use Rattle.sym_state.specs.declared.hint.Hint.{Hint}
use Rattle.sym_state.specs.declared.hint.Hint.TheVariants.{Drop, Keep}
use Rattle.sym_state.specs.declared.symbol.Fact.{Fact}
use Rattle.sym_state.specs.declared.symbol.Kinds.{Kinds}
use Rattle.sym_state.specs.declared.symbol.Kinds.TheVariants.{Any, Int, Missing, Optional, Str}
use Rattle.sym_state.specs.declared.symbol.Sym.{Sym}
use Rattle.sym_state.specs.declared.test.Test.{Test}
use Rattle.sym_state.specs.declared.test.Test.TheVariants.{Above, Empty, Equal, Greater, Less, Missing as IsMissing}
use Rattle.straight_hints.specs.Found.{above_hints, both_kept, case_hint, case_hints, on_operands, test_hints}
use Rattle.straight_hints.specs.declared.finding.Finding.{Finding}
use Rattle.straight_hints.proofs.RulesTaken.{Leaving, Takes}

-- the cases of a test, with other hints left
abbrev pub cases_leaving : Leaving Cases
cases_leaving cases rest = record cases { hints = rest }

-- the same with labels
abbrev pub labelled_leaving : Leaving Labelled
labelled_leaving labelled rest = record labelled { hints = rest }

-- what a hint makes of a case, whatever hints are behind it
record Weighs (admits : Cond) (state : State) (hint : Hint) (left : List Hint) (one : Cases) : Type 0 where
  pub states : List State
  pub gives : one ≡ record { states = states; hints = left }
  pub always : (rest : List Hint) → weighed_by admits state hint rest ≡ given states rest

dropped : (admits : Cond) (state : State) (hint : Hint) (t : Bool) (left : List Hint) (one : Cases)
    → ((rest : List Hint) → weighed_by admits state hint rest ≡ cond t (given [] rest) (Err (NotEntailed 0)))
    → cond t (given [] left) (Err (NotEntailed 0)) ≡ Ok one → Weighs admits state hint left one
dropped admits state hint true left one always e = record { states = []; gives = ok_is _ _ e; always = always }
dropped admits state hint false left one always e = absurd (cc)

weighs : (admits : Cond) (state : State) (hint : Hint) (left : List Hint) (one : Cases) → weighed_by admits state hint left ≡ Ok one
    → Weighs admits state hint left one
weighs admits state Keep left one e = record { states = state ∷ []; gives = ok_is _ _ e; always = λ rest. refl }
weighs admits state (Drop proof) left one e =
    dropped admits state (Drop proof) (shows admits state proof absurdity) left one (λ rest. refl) e
weighs admits state _ left one e = absurd (cc)

-- what follows a case, of what it was weighed to
weighed_then : {X : Type 0} (admits : Cond) (state : State) (hint : Hint) (left : List Hint) (one : Cases) (next : Cases → Result X EffectFault) (x : X)
    (w : Weighs admits state hint left one) → next one ≡ Ok x → next (record { states = w.states; hints = left }) ≡ Ok x
weighed_then admits state hint left one next x w e = sym (ap next w.gives) ∙ e

-- two cases, each of which takes a hint, and what becomes of those that are kept
abbrev two_weighed : {X : Type 0} → Cond → State → State → (List State → List State → List Hint → X) → List Hint → Result X EffectFault
two_weighed admits first second ends hints =
    then_do (weighed admits first hints) (λ one. then_do (weighed admits second one.hints) (λ other. Ok (ends one.states other.states other.hints)))

-- what they come to, where it is known of each
two_come : {X : Type 0} (admits : Cond) (first second : State) (ends : List State → List State → List Hint → X) (a b : Hint) (one other : List State)
    → ((rest : List Hint) → weighed_by admits first a rest ≡ given one rest) → ((rest : List Hint) → weighed_by admits second b rest ≡ given other rest)
    → (rest : List Hint) → two_weighed admits first second ends (a ∷ (b ∷ rest)) ≡ Ok (ends one other rest)
two_come {X} admits first second ends a b one other ones others rest =
    let next : List State → Cases → Result X EffectFault = λ states more. Ok (ends states more.states more.hints) in
    ap (λ (r : Split). then_do r (λ cases. then_do (weighed admits second cases.hints) (next cases.states))) (ones (b ∷ rest))
    ∙ ap (λ (r : Split). then_do r (next one)) (others rest)

two_taken : {X : Type 0} (leaving : Leaving X) (admits : Cond) (first second : State) (ends : List State → List State → List Hint → X) (a b : Hint)
    → ((one other : List State) (left rest : List Hint) → ends one other rest ≡ leaving (ends one other left) rest)
    → Takes leaving (two_weighed admits first second ends) (a ∷ (b ∷ []))
two_taken {X} leaving admits first second ends a b leaves x e rest =
    let next : List State → Cases → Result X EffectFault = λ states more. Ok (ends states more.states more.hints) in
    let later : Cases → Result X EffectFault = λ cases. then_do (weighed admits second cases.hints) (next cases.states) in
    let begun = then_ok (weighed_by admits first a (b ∷ [])) later x e in
    let one = weighs admits first a (b ∷ []) begun.0 begun.1 in
    let ended = then_ok (weighed_by admits second b []) (next one.states) x
    (weighed_then admits first a (b ∷ []) begun.0 later x one begun.2) in
    let other = weighs admits second b [] ended.0 ended.1 in
    two_left leaving ends one.states other.states [] rest x leaves
    (two_come admits first second ends a b one.states other.states one.always other.always)
    (weighed_then admits second b [] ended.0 (next one.states) x other ended.2)
  where
    two_left : (leaving : Leaving X) (ends : List State → List State → List Hint → X) (one other : List State) (left rest : List Hint) (x : X)
        → ((one other : List State) (left rest : List Hint) → ends one other rest ≡ leaving (ends one other left) rest)
        → ((rest : List Hint) → two_weighed admits first second ends (a ∷ (b ∷ rest)) ≡ Ok (ends one other rest))
        → ok {E = EffectFault} (ends one other left) ≡ Ok x
        → two_weighed admits first second ends (a ∷ (b ∷ rest)) ≡ Ok (leaving x rest)
    two_left leaving ends one other left rest x leaves come e =
        come rest ∙ ap (λ (y : X). Ok y) (leaves one other left rest) ∙ ap (λ (y : X). Ok (leaving y rest)) (ok_is _ _ (sym e))

module _ (finding : Finding) (admits : Cond) where
  -- the hints for a test, from its cases where both are kept
  abbrev kept_hints : (List Hint → Split) → List Hint
  kept_hints rule = on_operands (rule both_kept) (λ cases. case_hints finding admits cases.states cases.hints)

  -- a test takes them
  abbrev TakesKept : (List Hint → Split) → Type 0
  TakesKept rule = Takes cases_leaving rule (kept_hints rule)

  fault_kept : (fault : EffectFault) → TakesKept (λ hints. Err fault)
  fault_kept fault = λ cases e. absurd (cc)

  where_kept : (t : Bool) (fault : EffectFault) (rule : List Hint → Split) → TakesKept rule → TakesKept (λ hints. cond t (rule hints) (Err fault))
  where_kept true fault rule takes = takes
  where_kept false fault rule takes = fault_kept fault

  behind_kept : {Y : Type 0} (found : Result Y EffectFault) (rule : Y → List Hint → Split) → ((y : Y) → TakesKept (rule y))
      → TakesKept (λ hints. then_do found (λ y. rule y hints))
  behind_kept (Ok y) rule takes = takes y
  behind_kept (Err fault) rule takes = fault_kept fault

  given_kept : (states : List State) → TakesKept (given states)
  given_kept states = λ cases e rest. ap (λ (c : Cases). Ok (record c { hints = rest })) (ok_is _ _ (sym e))

  weighed_kept : (first second : State) → TakesKept (weighed_both admits first second)
  weighed_kept first second =
      two_taken cases_leaving admits first second (λ one other hints. record { states = one ++ other; hints = hints })
      (case_hint finding admits first) (case_hint finding admits second) (λ one other left rest. refl)

  -- the tests
  empty_kept : (answer : Option Bool) (one : One) → TakesKept (empty_cases answer one)
  empty_kept (Some answer) one = given_kept (with_truth answer one.rest ∷ [])
  empty_kept None one = given_kept _

  missing_kept : (kind : Kinds) (one : One) → TakesKept (missing_cases kind one)
  missing_kept Missing one = given_kept (with_truth true one.rest ∷ [])
  missing_kept Str one = given_kept (with_truth false one.rest ∷ [])
  missing_kept _ one = given_kept _

  integers_kept : (answer : Option Bool) (holds fails : List Row) (rest : State) → TakesKept (integer_cases admits answer holds fails rest)
  integers_kept (Some answer) holds fails rest = given_kept (with_truth answer rest ∷ [])
  integers_kept None holds fails rest = weighed_kept (with_truth true (with_case [] holds rest)) (with_truth false (with_case [] fails rest))

  texts_kept : (answer : Option Bool) (facts : List Fact) (rest : State) → TakesKept (text_cases answer facts rest)
  texts_kept (Some answer) facts rest = given_kept (with_truth answer rest ∷ [])
  texts_kept None facts rest = given_kept _

  equal_kept : (state : State) (kind : Kinds) (two : Two) → TakesKept (equal_by admits state kind two)
  equal_kept state Int two =
      where_kept (is_of_kind state Int two.lower) (fails WrongKind 2)
      (integer_cases admits (equal_decided state.facts two.lower two.upper) (equal_rows two.lower two.upper) [] two.rest)
      (integers_kept (equal_decided state.facts two.lower two.upper) (equal_rows two.lower two.upper) [] two.rest)
  equal_kept state Str two =
      where_kept (is_of_kind state Str two.lower) (fails WrongKind 2)
      (text_cases (texts_decided state.facts two.lower two.upper) (passed_both state.facts two.lower two.upper) two.rest)
      (texts_kept (texts_decided state.facts two.lower two.upper) (passed_both state.facts two.lower two.upper) two.rest)
  equal_kept state _ two = fault_kept (fails WrongKind 1)

  less_kept : (facts : List Fact) (a b : Sym) (rest : State) → TakesKept (less_cases admits facts a b rest)
  less_kept facts a b rest = integers_kept (less_decided facts a b) (less_rows a b) (at_least_rows a b) rest

  -- whether an integer is above 0
  above_by : (state : State) (s : Sym) (exact : Option ℤ)
      → Takes labelled_leaving (above_cases admits state s exact)
      (on_operands (above_cases admits state s exact both_kept) (λ labelled. case_hints finding admits (map (λ case. case.1) labelled.cases) labelled.hints))
  above_by state s (Some n) = λ labelled e rest. ap (λ (l : Labelled). Ok (record l { hints = rest })) (ok_is _ _ (sym e))
  above_by state s None =
      let positive = with_case [] (positive_rows s) state in
      let other = with_case [] (not_positive_rows s) state in
      two_taken labelled_leaving admits positive other
      (λ one other hints. record { cases = with_label true one ++ with_label false other; hints = hints })
      (case_hint finding admits positive) (case_hint finding admits other) (λ one other left rest. refl)

  pub above_taken : (state : State) (s : Sym) → Takes labelled_leaving (above_of admits state s) (above_hints finding admits state s)
  above_taken state s = above_by state s (exact_integer state.facts s.0)

  -- the same without labels
  unlabelled_hints : (found : Result Labelled EffectFault)
      → on_operands found (λ labelled. case_hints finding admits (map (λ case. case.1) labelled.cases) labelled.hints)
      ≡ on_operands (without_labels found) (λ cases. case_hints finding admits cases.states cases.hints)
  unlabelled_hints (Ok labelled) = refl
  unlabelled_hints (Err fault) = refl

  unlabelled : (found : Result Labelled EffectFault) (cases : Cases) → without_labels found ≡ Ok cases
      → (labelled : Labelled) × (found ≡ Ok labelled) × (record { states = map (λ case. case.1) labelled.cases; hints = labelled.hints } ≡ cases)
  unlabelled (Ok labelled) cases e = (labelled, refl, ok_is _ _ (sym e))
  unlabelled (Err fault) cases e = absurd (cc)

  unlabelled_taken : (rule : List Hint → Result Labelled EffectFault) (hints : List Hint) → Takes labelled_leaving rule hints
      → Takes cases_leaving (λ left. without_labels (rule left)) hints
  unlabelled_taken rule hints takes cases e rest =
      let one = unlabelled (rule hints) cases e in
      ap without_labels (takes one.0 one.1 rest) ∙ ap (λ (c : Cases). Ok (record c { hints = rest })) one.2

  above_kept : (state : State) (s : Sym) → TakesKept (λ hints. without_labels (above_of admits state s hints))
  above_kept state s =
      subst (Takes cases_leaving (λ hints. without_labels (above_of admits state s hints))) (unlabelled_hints (above_of admits state s both_kept))
      (unlabelled_taken (above_of admits state s) (above_hints finding admits state s) (above_taken state s))

  -- what is found for a test is what it takes
  pub test_taken : (state : State) (asked : Test) → Takes cases_leaving (split_of admits state asked) (test_hints finding admits state asked)
  test_taken state Empty =
      behind_kept (one_of Optional state) (λ one. empty_cases (first_said emptiness_said one.operand.0 state.facts) one)
      (λ one. empty_kept (first_said emptiness_said one.operand.0 state.facts) one)
  test_taken state IsMissing =
      behind_kept (one_of Optional state) (λ one. missing_cases (known_kind state.facts one.operand.0) one)
      (λ one. missing_kept (known_kind state.facts one.operand.0) one)
  test_taken state Equal =
      behind_kept (two_of Any Any state) (λ two. equal_by admits state (known_kind state.facts two.upper.0) two)
      (λ two. equal_kept state (known_kind state.facts two.upper.0) two)
  test_taken state Less =
      behind_kept (two_of Int Int state) (λ two. less_cases admits state.facts two.lower two.upper two.rest)
      (λ two. less_kept state.facts two.lower two.upper two.rest)
  test_taken state Greater =
      behind_kept (two_of Int Int state) (λ two. less_cases admits state.facts two.upper two.lower two.rest)
      (λ two. less_kept state.facts two.upper two.lower two.rest)
  test_taken state (Above s) = above_kept state s
