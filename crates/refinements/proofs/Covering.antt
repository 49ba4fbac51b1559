-- Which of the cases covers what the machine does.
use Rattle.std.proofs.Common.{◌≡◌, ℕ, ◌<◌, ◌≤◌, ◌⊎◌, Bool, true, false, cond, List, [], ◌∷◌, ◌++◌, drop, length, Result, Ok, Err, refl, sym, ap, subst, ◌∙◌, inl, inr, arith}
use Rattle.std.specs.List.{All, AllByRecursion}
use Rattle.std.proofs.lemmas.Int.{ints}
use Rattle.std.proofs.lemmas.List.Elements.{All-cons, All-nil, All-same}
use Rattle.bv_base.specs.declared.place.Place.{Place}
use Rattle.lin_facts.specs.Rows.{Holds}
use Rattle.lin_facts.specs.declared.row.Row.{Row}
use Rattle.name_table.specs.declared.builtin.Builtin.{Builtin}
use Rattle.name_table.specs.declared.style.Style.{Style}
use Rattle.bst_meaning.specs.declared.condition.Cond.{Cond}
use Rattle.bst_meaning.specs.EntryLists.{EntryList}
use Rattle.bst_meaning.specs.declared.value.Value.{Value}
use Rattle.bst_meaning.specs.declared.value.Value.TheVariants.{Int as IntValue}
use Rattle.bst_meaning.specs.Builtins.{built_in}
use Rattle.bst_meaning.specs.Config.{Config, Event}
use Rattle.bst_meaning.specs.Effect.{left, pushed}
use Rattle.bst_meaning.specs.Machine.{context_of}
use Rattle.bst_meaning.specs.Operands.{truth}
use Rattle.sym_state.specs.declared.hint.Hint.{Hint}
use Rattle.sym_state.specs.declared.hint.Hint.TheVariants.{Keep, Drop}
use Rattle.sym_state.specs.declared.proof.Proof.{Proof}
use Rattle.sym_state.specs.declared.demand.EffectFault.{EffectFault}
use Rattle.sym_state.specs.State.{State}
use Rattle.sym_state.specs.declared.symbol.Fact.{Fact}
use Rattle.sym_state.specs.declared.symbol.Fact.TheVariants.{Int as IntFact}
use Rattle.sym_state.specs.declared.symbol.Kinds.TheVariants.{Int}
use Rattle.sym_state.specs.declared.symbol.Sym.{Sym}
use Rattle.sym_state.specs.Cases.{Cases, Split, absurdity, both, decided, given, number_of, weighed, weighed_both, with_case, with_truth}
use Rattle.sym_state.specs.Covers.{Covers}
use Rattle.sym_state.specs.Facts.{FactHolds, has_kind}
use Rattle.sym_state.specs.References.{shows}
use Rattle.sym_state.specs.Results.{next_of}
use Rattle.sym_state.specs.Stands.{Satisfies, Stands}
use Rattle.sym_state.specs.Symbols.{Valuation, IsValue, numbers}
use Rattle.sym_state.specs.WellMade.{WellMade}
use Rattle.sym_state.proofs.Frames.{next_agrees, next_is, with_next, value_list}
use Rattle.bv_base.specs.Answers.{then_do}
use Rattle.sym_state.proofs.Ensured.{IsShown}
use Rattle.sym_state.proofs.Pushing.{pushed as stands_pushed, with_stack, without}
use Rattle.sym_state.proofs.Resulting.{Fits}
use Rattle.sym_state.proofs.Shown.{shown_holds}
use Rattle.refinements.specs.Covered.{IsAmong}
use Rattle.refinements.proofs.Fitting.{case_made, case_stands}
use Rattle.sym_state.specs.declared.demand.EffectFault.TheVariants.{NotEntailed}

-- a row that never holds isn't shown in a state that is satisfied
not_shown : {X : Type 0} (style : Style) (admits : Cond) (v : Valuation) (state : State) (proof : Proof) → Satisfies style admits v state
    → shows admits state proof absurdity ≡ true → X
not_shown style admits v state proof h e =
    let holds : Holds (numbers v) absurdity = shown_holds style admits v state proof absurdity h e in
    absurd (omega (arith, ints))

-- a case that is weighed takes one hint: it is kept, or shown not to come about
pub record Weighed (admits : Cond) (state : State) (hints : List Hint) (cases : Cases) : Type 0 where
  pub there : 1 ≤ length hints
  pub left : cases.hints ≡ drop 1 hints
  pub states : (cases.states ≡ state ∷ []) ⊎ ((cases.states ≡ []) × IsShown admits state absurdity)

dropped : (admits : Cond) (state : State) (proof : Proof) (hints : List Hint) (cases : Cases) (t : Bool) → shows admits state proof absurdity ≡ t
    → cond t (given [] hints) (Err (NotEntailed 0)) ≡ Ok cases → Weighed admits state (Drop proof ∷ hints) cases
dropped admits state proof hints cases true is e =
    let same : record { states = []; hints = hints } ≡ cases = cc in
    record { there = omega arith; left = sym (ap (λ (c : Cases). c.hints) same); states = inr (sym (ap (λ (c : Cases). c.states) same), (proof, is)) }
dropped admits state proof hints cases false is e = absurd (cc)

pub weighed_is : (admits : Cond) (state : State) (hints : List Hint) (cases : Cases) → weighed admits state hints ≡ Ok cases → Weighed admits state hints cases
weighed_is admits state (Keep ∷ hints) cases e =
    let same : record { states = state ∷ []; hints = hints } ≡ cases = cc in
    record { there = omega arith; left = sym (ap (λ (c : Cases). c.hints) same); states = inl (sym (ap (λ (c : Cases). c.states) same)) }
weighed_is admits state (Drop proof ∷ hints) cases e = dropped admits state proof hints cases (shows admits state proof absurdity) refl e
weighed_is admits state _ cases e = absurd (cc)

-- what holds of a state that is weighed holds of each case that is kept
pub weighed_each : (P : State → Type 0) (admits : Cond) (state : State) (hints : List Hint) (cases : Cases) → P state
    → weighed admits state hints ≡ Ok cases → All P cases.states
weighed_each P admits state hints cases holds e =
    let w = weighed_is admits state hints cases e in
    elim w.states [
      | inl is ↦ All-same P cases.states (state ∷ []) is (All-cons P state [] holds (All-nil P))
      | inr none ↦ All-same P cases.states [] none.0 (All-nil P)
    ]

-- a case that is satisfied is kept, if it has a hint that is taken
pub kept : (style : Style) (admits : Cond) (v : Valuation) (state : State) (hints : List Hint) (cases : Cases) → Satisfies style admits v state
    → weighed admits state hints ≡ Ok cases → cases.states ≡ state ∷ []
kept style admits v state hints cases h e =
    let w = weighed_is admits state hints cases e in
    elim w.states [
      | inl is ↦ is
      | inr none ↦ not_shown style admits v state none.1.0 h none.1.1
    ]

-- two cases that are weighed one after the other, and what follows them
pub record BothWeighed {X : Type 0} (admits : Cond) (first second : State) (hints : List Hint) (next : Cases → Cases → Result X EffectFault) (x : X) : Type 0 where
  pub one : Cases
  pub other : Cases
  pub first_weighed : weighed admits first hints ≡ Ok one
  pub second_weighed : weighed admits second one.hints ≡ Ok other
  pub given : next one other ≡ Ok x

pub weighed_then : {X : Type 0} (admits : Cond) (first second : State) (hints : List Hint) (next : Cases → Cases → Result X EffectFault) (x : X)
    → then_do (weighed admits first hints) (λ one. then_do (weighed admits second one.hints) (next one)) ≡ Ok x
    → BothWeighed admits first second hints next x
weighed_then {X} admits first second hints next x e =
    elim (weighed admits first hints) as (λ (o : Split). weighed admits first hints ≡ o
    → then_do o (λ one. then_do (weighed admits second one.hints) (next one)) ≡ Ok x → BothWeighed admits first second hints next x) [
      | Err fault ↦ λ is found. absurd (cc)
      | Ok one ↦ λ is found. elim (weighed admits second one.hints) as (λ (o : Split). weighed admits second one.hints ≡ o
          → then_do o (next one) ≡ Ok x → BothWeighed admits first second hints next x) [
            | Err fault ↦ λ other_is wrong. absurd (cc)
            | Ok other ↦ λ other_is all. record { one = one; other = other; first_weighed = is; second_weighed = other_is; given = all }
          ] refl found
    ] refl e

-- what comes of two cases
pub record Two (admits : Cond) (first second : State) (hints : List Hint) (cases : Cases) : Type 0 where
  pub one : Cases
  pub other : Cases
  pub first_weighed : weighed admits first hints ≡ Ok one
  pub second_weighed : weighed admits second one.hints ≡ Ok other
  pub joined : cases.states ≡ one.states ++ other.states
  pub left : cases.hints ≡ other.hints

given_is : (states : List State) (hints : List Hint) (cases : Cases) → given states hints ≡ Ok cases → record { states = states; hints = hints } ≡ cases
given_is states hints cases e = cc

pub both_weighed : (admits : Cond) (first second : State) (hints : List Hint) (cases : Cases) → weighed_both admits first second hints ≡ Ok cases
    → Two admits first second hints cases
both_weighed admits first second hints cases e =
    let two = weighed_then admits first second hints (λ one other. given (one.states ++ other.states) other.hints) cases e in
    let same = given_is (two.one.states ++ two.other.states) two.other.hints cases two.given in record {
      one = two.one;
      other = two.other;
      first_weighed = two.first_weighed;
      second_weighed = two.second_weighed;
      joined = ap (λ (c : Cases). c.states) (sym same);
      left = ap (λ (c : Cases). c.hints) (sym same);
    }

pub among_later : {X : Type 0} (x : X) (before after : List X) → IsAmong x after → IsAmong x (before ++ after)
among_later x [] after h = h
among_later x (first ∷ before) after h = inr (among_later x before after h)

-- the first of two cases, if it is satisfied
pub first_kept : (style : Style) (admits : Cond) (v : Valuation) (first second : State) (hints : List Hint) (cases : Cases)
    → Satisfies style admits v first → weighed_both admits first second hints ≡ Ok cases → IsAmong first cases.states
first_kept style admits v first second hints cases h e =
    let two = both_weighed admits first second hints cases e in
    let is = kept style admits v first hints two.one h two.first_weighed in
    subst (λ (states : List State). IsAmong first states) (sym (two.joined ∙ ap (λ (l : List State). l ++ two.other.states) is)) (inl refl)

-- the second of them, if it is
pub second_kept : (style : Style) (admits : Cond) (v : Valuation) (first second : State) (hints : List Hint) (cases : Cases)
    → Satisfies style admits v second → weighed_both admits first second hints ≡ Ok cases → IsAmong second cases.states
second_kept style admits v first second hints cases h e =
    let two = both_weighed admits first second hints cases e in
    let is = kept style admits v second two.one.hints two.other h two.second_weighed in
    subst (λ (states : List State). IsAmong second states) (sym (two.joined ∙ ap (λ (l : List State). two.one.states ++ l) is))
    (among_later second two.one.states (second ∷ []) (inl refl))

-- what is given without hints
pub decided_is : (answer : Bool) (rest : State) (hints : List Hint) (cases : Cases) → decided answer rest hints ≡ Ok cases
    → IsAmong (with_truth answer rest) cases.states
decided_is answer rest hints cases e =
    let same : record { states = with_truth answer rest ∷ []; hints = hints } ≡ cases = cc in
    subst (λ (c : Cases). IsAmong (with_truth answer rest) c.states) same (inl refl)

pub first_is : (holds fails : List Fact) (rest : State) (hints : List Hint) (cases : Cases) → both holds fails rest hints ≡ Ok cases
    → IsAmong (with_truth true (with_case holds [] rest)) cases.states
first_is holds fails rest hints cases e =
    let same : record { states = with_truth true (with_case holds [] rest) ∷ (with_truth false (with_case fails [] rest) ∷ []); hints = hints } ≡ cases = cc in
    subst (λ (c : Cases). IsAmong (with_truth true (with_case holds [] rest)) c.states) same (inl refl)

pub second_is : (holds fails : List Fact) (rest : State) (hints : List Hint) (cases : Cases) → both holds fails rest hints ≡ Ok cases
    → IsAmong (with_truth false (with_case fails [] rest)) cases.states
second_is holds fails rest hints cases e =
    let same : record { states = with_truth true (with_case holds [] rest) ∷ (with_truth false (with_case fails [] rest) ∷ []); hints = hints } ≡ cases = cc in
    subst (λ (c : Cases). IsAmong (with_truth false (with_case fails [] rest)) c.states) same (inr (inl refl))

truth_value : (answer : Bool) → truth answer ≡ IntValue (number_of answer)
truth_value true = refl
truth_value false = refl

truth_is_value : (answer : Bool) → IsValue (truth answer)
truth_is_value true = refl
truth_is_value false = refl

-- what surrounds a step of the machine at a test
pub record At (style : Style) (admits : Cond) (list : EntryList) (v : Valuation) (state : State) (c : Config) (below : List Value)
    (rest : List Sym) (op : Builtin) (answer : Bool) : Type 0 where
  pub made : WellMade style state
  pub stands : Stands style admits list v state c below
  pub old : All (λ s. s.0 < state.next) rest
  pub gives : built_in op (context_of style c) c.stack ≡ pushed (truth answer) (value_list v rest ++ below)

has_int : (answer : Bool) → has_kind Int (truth answer) ≡ true
has_int true = refl
has_int false = refl

truth_stands : (style : Style) (admits : Cond) (list : EntryList) (v : Valuation) (state : State) (c : Config) (below : List Value)
    (rest : List Sym) (answer : Bool) (events : List Event) (log : List (List ℕ)) → WellMade style state → Stands style admits list v state c below
    → All (λ s. s.0 < state.next) rest
    → Stands style admits list (with_next state.next (truth answer) v) (with_truth answer (without rest state))
    (with_stack (truth answer ∷ (value_list v rest ++ below)) events log c) below
truth_stands style admits list v state c below rest answer events log made h old =
    stands_pushed style admits list v state c below rest Int (IntFact (next_of state) (number_of answer) ∷ []) [] (truth answer) events log made h old
    (truth_is_value answer) (has_int answer) (next_is state.next (truth answer) v ∙ truth_value answer, tt) tt

-- the case of the answer that the machine gives covers it
pub answer_covers : (style : Style) (admits : Cond) (list : EntryList) (v : Valuation) (state : State) (c : Config) (below : List Value)
    (place : Place) (rest : List Sym) (op : Builtin) (answer : Bool) (facts : List Fact) (rows : List Row)
    → At style admits list v state c below rest op answer → Fits style state.next facts rows
    → AllByRecursion (FactHolds style v) facts → AllByRecursion (Holds (numbers v)) rows
    → Covers style admits list v state c below place op (with_truth answer (with_case facts rows (without rest state)))
answer_covers style admits list v state c below place rest op answer facts rows at fits fine shown = record {
  effect = left (truth answer ∷ (value_list v rest ++ below));
  gives = at.gives;
  assignment = with_next state.next (truth answer) v;
  agrees = next_agrees state.next (truth answer) v;
  stands = truth_stands style admits list v (with_case facts rows state) c below rest answer (c.events ++ []) (c.log ++ [])
      (case_made style state facts rows at.made fits) (case_stands style admits list v state c below facts rows at.stands fine shown) at.old;
}

-- the case of a test that is decided
pub decided_covers : (style : Style) (admits : Cond) (list : EntryList) (v : Valuation) (state : State) (c : Config) (below : List Value)
    (place : Place) (rest : List Sym) (op : Builtin) (answer : Bool) → At style admits list v state c below rest op answer
    → Covers style admits list v state c below place op (with_truth answer (without rest state))
decided_covers style admits list v state c below place rest op answer at = record {
  effect = left (truth answer ∷ (value_list v rest ++ below));
  gives = at.gives;
  assignment = with_next state.next (truth answer) v;
  agrees = next_agrees state.next (truth answer) v;
  stands = truth_stands style admits list v state c below rest answer (c.events ++ []) (c.log ++ []) at.made at.stands at.old;
}
