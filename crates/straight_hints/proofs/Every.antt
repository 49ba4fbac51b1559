-- What every hint has that is found, where proofs that are found have it.
use Rattle.std.proofs.Common.{◌≡◌, Bool, true, false, List, [], ◌∷◌, map, Option, None, Some, Result, Ok, Err, refl}
use Rattle.std.specs.List.{All}
use Rattle.std.specs.Option.{IfSome}
use Rattle.std.proofs.lemmas.List.Elements.{All-cons, All-head, All-nil, All-tail}
use Rattle.lin_facts.specs.declared.row.Row.{Row}
use Rattle.bst_meaning.specs.declared.condition.Cond.{Cond}
use Rattle.sym_state.specs.Cases.{Cases, Labelled, above_of, split_of}
use Rattle.sym_state.specs.Demands.{Rule, Gives, Refuses, Demands, OneOperand, TwoOperands, ThreeOperands, Steps, BothSteps, Chooses, one_of, two_of, three_of}
use Rattle.sym_state.specs.State.{State}
use Rattle.sym_state.specs.declared.demand.EffectFault.{EffectFault}
use Rattle.sym_state.specs.declared.hint.Hint.{Hint}
use Rattle.sym_state.specs.declared.hint.Hint.TheVariants.{Plain, Step}
use Rattle.sym_state.specs.declared.proof.Proof.{Proof}
use Rattle.sym_state.specs.declared.symbol.Sym.{Sym}
use Rattle.sym_state.specs.declared.test.Test.{Test}
use Rattle.straight_hints.specs.declared.finding.Finding.{Finding}
use Rattle.straight_hints.specs.Found.{above_hints, both_kept, by_choice, case_hint, case_hints, choice_found, on_operands, proof_found, rule_hints, step_found, test_hints}

-- the hints of steps, choices and cases in a state have a property
pub record Has (P : Hint → Type 0) (finding : Finding) (admits : Cond) (state : State) : Type 0 where
  pub step : (goal : Row) → P (step_found finding admits state goal)
  pub chosen : (goal : Row) → IfSome (proof_found finding admits state goal) (λ proof. P (Step proof))
  pub case : P (case_hint finding admits state)

chosen_has : (P : Hint → Type 0) (finding : Finding) (admits : Cond) (state : State) → Has P finding admits state → (wanted : Bool) (goal : Row)
    → IfSome (choice_found finding admits state wanted goal) (λ proof. P (Step proof))
chosen_has P finding admits state has true goal = has.chosen goal
chosen_has P finding admits state has false goal = tt

choices_have : (P : Hint → Type 0) → P Plain → (found : Option Proof) (by_step by_rule : List Hint) → IfSome found (λ proof. P (Step proof)) → All P by_step
    → All P by_rule → All P (by_choice found by_step by_rule)
choices_have P plain (Some proof) by_step by_rule has first second = All-cons P (Step proof) by_step has first
choices_have P plain None by_step by_rule has first second = All-cons P Plain by_rule plain second

-- what follows operands, whatever they are
behind_has : {X : Type 0} (P : Hint → Type 0) (operands : Result X EffectFault) (next : X → List Hint) → ((x : X) → operands ≡ Ok x → All P (next x))
    → All P (on_operands operands next)
behind_has P (Ok x) next has = has x refl
behind_has P (Err fault) next has = All-nil P

-- the hints for each rule
pub rule_has : (P : Hint → Type 0) → P Plain → (finding : Finding) (admits : Cond) (state : State) → Has P finding admits state → (rule : Rule)
    → All P (rule_hints finding admits state rule)
rule_has P plain finding admits state has (Gives after) = All-nil P
rule_has P plain finding admits state has (Refuses kind operand) = All-nil P
rule_has P plain finding admits state has (Demands true kind operand next) = rule_has P plain finding admits state has next
rule_has P plain finding admits state has (Demands false kind operand next) = All-nil P
rule_has P plain finding admits state has (OneOperand kind next) =
    behind_has P (one_of kind state) (λ taken. rule_hints finding admits state (next taken.operand taken.rest))
    (λ taken e. rule_has P plain finding admits state has (next taken.operand taken.rest))
rule_has P plain finding admits state has (TwoOperands lower upper next) =
    behind_has P (two_of lower upper state) (λ taken. rule_hints finding admits state (next taken.lower taken.upper taken.rest))
    (λ taken e. rule_has P plain finding admits state has (next taken.lower taken.upper taken.rest))
rule_has P plain finding admits state has (ThreeOperands lowest middle top next) =
    behind_has P (three_of lowest middle top state) (λ taken. rule_hints finding admits state (next taken.lowest taken.middle taken.top taken.rest))
    (λ taken e. rule_has P plain finding admits state has (next taken.lowest taken.middle taken.top taken.rest))
rule_has P plain finding admits state has (Steps row fault next) =
    All-cons P (step_found finding admits state row) (rule_hints finding admits state next) (has.step row) (rule_has P plain finding admits state has next)
rule_has P plain finding admits state has (BothSteps first second fault next) =
    let more = rule_hints finding admits state next in
    All-cons P (step_found finding admits state first) (step_found finding admits state second ∷ more) (has.step first)
    (All-cons P (step_found finding admits state second) more (has.step second) (rule_has P plain finding admits state has next))
rule_has P plain finding admits state has (Chooses wanted row by_step by_rule) =
    choices_have P plain (choice_found finding admits state wanted row) (rule_hints finding admits state by_step) (rule_hints finding admits state by_rule)
    (chosen_has P finding admits state has wanted row) (rule_has P plain finding admits state has by_step) (rule_has P plain finding admits state has by_rule)

-- the hints for cases
each_has : (P : Hint → Type 0) (finding : Finding) (admits : Cond) (states : List State) → All (Has P finding admits) states
    → All P (map (case_hint finding admits) states)
each_has P finding admits [] has = All-nil P
each_has P finding admits (state ∷ states) has =
    All-cons P (case_hint finding admits state) (map (case_hint finding admits) states) (All-head (Has P finding admits) state states has).case
    (each_has P finding admits states (All-tail (Has P finding admits) state states has))

pub cases_have : (P : Hint → Type 0) (finding : Finding) (admits : Cond) (states : List State) (left : List Hint)
    → (left ≡ [] → All (Has P finding admits) states) → All P (case_hints finding admits states left)
cases_have P finding admits states [] has = each_has P finding admits states (has refl)
cases_have P finding admits states (hint ∷ left) has = All-nil P

-- those for a test, of whose cases each state has them
pub test_has : (P : Hint → Type 0) (finding : Finding) (admits : Cond) (state : State) (test : Test)
    → ((cases : Cases) → split_of admits state test both_kept ≡ Ok cases → cases.hints ≡ [] → All (Has P finding admits) cases.states)
    → All P (test_hints finding admits state test)
test_has P finding admits state test has =
    behind_has P (split_of admits state test both_kept) (λ cases. case_hints finding admits cases.states cases.hints)
    (λ cases e. cases_have P finding admits cases.states cases.hints (has cases e))

pub above_has : (P : Hint → Type 0) (finding : Finding) (admits : Cond) (state : State) (s : Sym)
    → ((labelled : Labelled) → above_of admits state s both_kept ≡ Ok labelled → labelled.hints ≡ [] → All (Has P finding admits) (map (λ case. case.1) labelled.cases))
    → All P (above_hints finding admits state s)
above_has P finding admits state s has =
    behind_has P (above_of admits state s both_kept) (λ labelled. case_hints finding admits (map (λ case. case.1) labelled.cases) labelled.hints)
    (λ labelled e. cases_have P finding admits (map (λ case. case.1) labelled.cases) labelled.hints (has labelled e))
