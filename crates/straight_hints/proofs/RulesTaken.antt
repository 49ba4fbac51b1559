-- What is found for a rule is what the rule takes: with whatever hints behind these it gives the same, and leaves those.
use Rattle.std.proofs.Common.{◌≡◌, Bool, true, false, cond, List, ◌∷◌, ◌++◌, Option, None, Some, Result, Ok, Err, sym, ap}
use Rattle.bv_base.specs.Answers.{then_do}
use Rattle.bv_base.proofs.ThenLemmas.{ok_is}
use Rattle.lin_facts.specs.declared.row.Row.{Row}
use Rattle.name_table.specs.declared.builtin.Builtin.{Builtin}
use Rattle.name_table.specs.declared.style.Style.{Style}
use Rattle.bst_meaning.specs.declared.condition.Cond.{Cond}
use Rattle.sym_state.specs.Demands.{After, BothSteps, Chooses, Demands, Gives, OneOperand, Outcome, Refuses, Rule, Steps, ThreeOperands, TwoOperands, choice, one_of, outcome, step, three_of, two_of}
use Rattle.sym_state.specs.Effects.{effect_of, rule_of}
use Rattle.sym_state.specs.References.{shows}
use Rattle.sym_state.specs.State.{State}
use Rattle.sym_state.specs.declared.demand.EffectFault.{EffectFault}
use Rattle.sym_state.specs.declared.demand.EffectFault.TheVariants.{NotEntailed, WrongHint}
use Rattle.sym_state.specs.declared.hint.Hint.{Hint}
use Rattle.sym_state.specs.declared.proof.Proof.{Proof}
use Rattle.straight_hints.specs.Found.{by_choice, choice_found, on_operands, plain_hints, rule_hints, step_found}
use Rattle.straight_hints.specs.declared.finding.Finding.{Finding}

-- a value with other hints left
abbrev pub Leaving : Type 0 → Type 0
Leaving X = X → List Hint → X

-- a rule takes these hints: where it gives a value with them alone, it gives that value with others behind them, which it leaves
abbrev pub Takes : {X : Type 0} → Leaving X → (List Hint → Result X EffectFault) → List Hint → Type 0
Takes {X} leaving rule hints = (x : X) → rule hints ≡ Ok x → (rest : List Hint) → rule (hints ++ rest) ≡ Ok (leaving x rest)

-- behind a demand
pub taken_where : {X : Type 0} (leaving : Leaving X) (t : Bool) (fault : EffectFault) (rule : List Hint → Result X EffectFault) (hints : List Hint)
    → Takes leaving rule hints → Takes leaving (λ left. cond t (rule left) (Err fault)) hints
taken_where leaving true fault rule hints takes = takes
taken_where leaving false fault rule hints takes = λ x e. absurd (cc)

-- behind operands
pub taken_behind : {X Y : Type 0} (leaving : Leaving X) (found : Result Y EffectFault) (rule : Y → List Hint → Result X EffectFault) (hints : Y → List Hint)
    → ((y : Y) → Takes leaving (rule y) (hints y)) → Takes leaving (λ left. then_do found (λ y. rule y left)) (on_operands found hints)
taken_behind leaving (Ok y) rule hints takes = takes y
taken_behind leaving (Err fault) rule hints takes = λ x e. absurd (cc)

-- the state after a rule, with other hints left
abbrev pub after_leaving : Leaving After
after_leaving after rest = record after { hints = rest }

choice_taken : (admits : Cond) (state : State) (wanted : Bool) (row : Row) (found : Option Proof) (by_step by_rule : List Hint → Outcome)
    (step_hints rule_hints : List Hint) → Takes after_leaving by_step step_hints → Takes after_leaving by_rule rule_hints
    → Takes after_leaving (λ left. choice admits state wanted row left by_step by_rule) (by_choice found step_hints rule_hints)
choice_taken admits state wanted row (Some proof) by_step by_rule step_hints rule_hints by_steps by_rules =
    taken_where after_leaving wanted WrongHint (λ left. cond (shows admits state proof row) (by_step left) (Err (NotEntailed 0))) step_hints
    (taken_where after_leaving (shows admits state proof row) (NotEntailed 0) by_step step_hints by_steps)
choice_taken admits state wanted row None by_step by_rule step_hints rule_hints by_steps by_rules = by_rules

step_taken : (finding : Finding) (admits : Cond) (state : State) (row : Row) (fault : EffectFault) (rule : List Hint → Outcome) (hints : List Hint)
    → Takes after_leaving rule hints
    → Takes after_leaving (λ left. step admits state row fault left rule) (step_found finding admits state row ∷ hints)
step_taken finding admits state row fault rule hints takes = taken_where after_leaving _ fault rule hints takes

-- what is found for a rule is what it takes
pub rule_taken : (finding : Finding) (admits : Cond) (state : State) (rule : Rule)
    → Takes after_leaving (outcome admits state rule) (rule_hints finding admits state rule)
rule_taken finding admits state (Gives given) = λ after e rest. ap (λ (a : After). Ok (record a { hints = rest })) (ok_is _ _ (sym e))
rule_taken finding admits state (Refuses kind operand) = λ after e. absurd (cc)
rule_taken finding admits state (Demands true kind operand next) = rule_taken finding admits state next
rule_taken finding admits state (Demands false kind operand next) = λ after e. absurd (cc)
rule_taken finding admits state (OneOperand kind next) =
    taken_behind after_leaving (one_of kind state) (λ taken. outcome admits state (next taken.operand taken.rest))
    (λ taken. rule_hints finding admits state (next taken.operand taken.rest))
    (λ taken. rule_taken finding admits state (next taken.operand taken.rest))
rule_taken finding admits state (TwoOperands lower upper next) =
    taken_behind after_leaving (two_of lower upper state) (λ taken. outcome admits state (next taken.lower taken.upper taken.rest))
    (λ taken. rule_hints finding admits state (next taken.lower taken.upper taken.rest))
    (λ taken. rule_taken finding admits state (next taken.lower taken.upper taken.rest))
rule_taken finding admits state (ThreeOperands lowest middle top next) =
    taken_behind after_leaving (three_of lowest middle top state) (λ taken. outcome admits state (next taken.lowest taken.middle taken.top taken.rest))
    (λ taken. rule_hints finding admits state (next taken.lowest taken.middle taken.top taken.rest))
    (λ taken. rule_taken finding admits state (next taken.lowest taken.middle taken.top taken.rest))
rule_taken finding admits state (Steps row fault next) =
    step_taken finding admits state row fault (outcome admits state next) (rule_hints finding admits state next) (rule_taken finding admits state next)
rule_taken finding admits state (BothSteps first second fault next) =
    step_taken finding admits state first fault (λ more. step admits state second fault more (outcome admits state next))
    (step_found finding admits state second ∷ rule_hints finding admits state next)
    (step_taken finding admits state second fault (outcome admits state next) (rule_hints finding admits state next)
    (rule_taken finding admits state next))
rule_taken finding admits state (Chooses wanted row by_step by_rule) =
    choice_taken admits state wanted row (choice_found finding admits state wanted row) (outcome admits state by_step) (outcome admits state by_rule)
    (rule_hints finding admits state by_step) (rule_hints finding admits state by_rule)
    (rule_taken finding admits state by_step) (rule_taken finding admits state by_rule)

-- the same of a built-in function that is neither a test nor enters a function
pub plain_taken : (finding : Finding) (style : Style) (admits : Cond) (state : State) (op : Builtin)
    → Takes after_leaving (effect_of style admits state op) (plain_hints finding style admits state op)
plain_taken finding style admits state op = rule_taken finding admits state (rule_of style admits state op)
