-- The hints that are found for a token in a state (docs/ANALYSER.md, "Hints"): where a rule takes one, the first that serves there.
use Rattle.std.specs.Prelude.{Bool, if◌then◌else◌, List, [], ◌∷◌, map, Option, None, Some, Result, Ok, Err}
use Rattle.std.specs.Option.{option_map_or}
use Rattle.lin_facts.specs.declared.row.Row.{Row}
use Rattle.name_table.specs.declared.builtin.Builtin.{Builtin}
use Rattle.name_table.specs.declared.style.Style.{Style}
use Rattle.bst_meaning.specs.declared.condition.Cond.{Cond}
use Rattle.sym_state.specs.Cases.{above_of, split_of}
use Rattle.sym_state.specs.Demands.{Rule, Gives, Refuses, Demands, OneOperand, TwoOperands, ThreeOperands, Steps, BothSteps, Chooses, one_of, two_of, three_of}
use Rattle.sym_state.specs.Effects.{rule_of}
use Rattle.sym_state.specs.State.{State}
use Rattle.sym_state.specs.declared.demand.EffectFault.{EffectFault}
use Rattle.sym_state.specs.declared.hint.Hint.{Hint}
use Rattle.sym_state.specs.declared.hint.Hint.TheVariants.{Drop, Keep, Plain, Step}
use Rattle.sym_state.specs.declared.proof.Proof.{Proof}
use Rattle.sym_state.specs.declared.symbol.Sym.{Sym}
use Rattle.sym_state.specs.declared.test.Test.{Test}
use Rattle.sym_state.specs.Entailing.{match_of}
use Rattle.sym_state.specs.Renaming.{row_renamed}
use Rattle.sym_state.specs.declared.piece.Piece.{Piece}
use Rattle.straight_proofs.specs.Straight.{drop_proof, proof_of, straight_proof}
use Rattle.straight_hints.specs.declared.finding.Finding.{Finding}
use Rattle.straight_hints.specs.declared.finding.Finding.TheVariants.{Bare, Straight}

-- the proof that is found for a row: bare hints have none
abbrev pub proof_found : Finding → Cond → State → Row → Option Proof
proof_found Bare admits state goal = None
proof_found Straight admits state goal = straight_proof admits state goal

-- the proof that is found for a case that can't come about
abbrev pub drop_found : Finding → Cond → State → Option Proof
drop_found Bare admits state = None
drop_found Straight admits state = drop_proof admits state

-- a proof that takes no reference
abbrev pub no_proof : Proof
no_proof = proof_of []

-- a step takes the proof that is found; with none its demand isn't met
abbrev pub step_found : Finding → Cond → State → Row → Hint
step_found finding admits state goal = Step (option_map_or (λ proof. proof) (proof_found finding admits state goal) no_proof)

-- a choice takes the proof where a step is wanted
abbrev pub choice_found : Finding → Cond → State → Bool → Row → Option Proof
choice_found finding admits state wanted goal = if wanted then proof_found finding admits state goal else None

-- it is a step where there is one, and else `plain`
abbrev pub by_choice : Option Proof → List Hint → List Hint → List Hint
by_choice (Some proof) by_step by_rule = Step proof ∷ by_step
by_choice None by_step by_rule = Plain ∷ by_rule

-- what follows operands that are there
abbrev pub on_operands : {X : Type 0} → Result X EffectFault → (X → List Hint) → List Hint
on_operands (Ok operands) next = next operands
on_operands (Err fault) next = []

-- the hints for what a built-in function does, in order: none behind a demand that isn't met
abbrev pub rule_hints : Finding → Cond → State → Rule → List Hint
rule_hints finding admits state (Gives after) = []
rule_hints finding admits state (Refuses kind operand) = []
rule_hints finding admits state (Demands met kind operand next) = if met then rule_hints finding admits state next else []
rule_hints finding admits state (OneOperand kind next) =
    on_operands (one_of kind state) (λ taken. rule_hints finding admits state (next taken.operand taken.rest))
rule_hints finding admits state (TwoOperands lower upper next) =
    on_operands (two_of lower upper state) (λ taken. rule_hints finding admits state (next taken.lower taken.upper taken.rest))
rule_hints finding admits state (ThreeOperands lowest middle top next) =
    on_operands (three_of lowest middle top state) (λ taken. rule_hints finding admits state (next taken.lowest taken.middle taken.top taken.rest))
rule_hints finding admits state (Steps row fault next) = step_found finding admits state row ∷ rule_hints finding admits state next
rule_hints finding admits state (BothSteps first second fault next) =
    step_found finding admits state first ∷ (step_found finding admits state second ∷ rule_hints finding admits state next)
rule_hints finding admits state (Chooses wanted row by_step by_rule) =
    by_choice (choice_found finding admits state wanted row)
    (rule_hints finding admits state by_step) (rule_hints finding admits state by_rule)

-- those for a built-in function that is neither a test nor enters a function
abbrev pub plain_hints : Finding → Style → Cond → State → Builtin → List Hint
plain_hints finding style admits state op = rule_hints finding admits state (rule_of style admits state op)

-- a case is dropped where a proof is found that it can't come about, and else kept
abbrev pub case_hint : Finding → Cond → State → Hint
case_hint finding admits state = option_map_or Drop (drop_found finding admits state) Keep

-- hints by which a test keeps both of its cases
abbrev pub both_kept : List Hint
both_kept = Keep ∷ (Keep ∷ [])

-- the hints for the cases of a test, of which all were kept: none where the test took none
abbrev pub case_hints : Finding → Cond → List State → List Hint → List Hint
case_hints finding admits states [] = map (case_hint finding admits) states
case_hints finding admits states (hint ∷ hints) = []

-- those for a test
abbrev pub test_hints : Finding → Cond → State → Test → List Hint
test_hints finding admits state asked =
    on_operands (split_of admits state asked both_kept) (λ cases. case_hints finding admits cases.states cases.hints)

-- those for whether an integer is above 0
abbrev pub above_hints : Finding → Cond → State → Sym → List Hint
above_hints finding admits state s =
    on_operands (above_of admits state s both_kept) (λ labelled. case_hints finding admits (map (λ case. case.1) labelled.cases) labelled.hints)

-- those by which a state shows a piece with symbols of its own: a step for each of its rows
abbrev pub piece_hints : Finding → Cond → State → Piece → List Hint
piece_hints finding admits state piece =
    map (λ row. step_found finding admits state (row_renamed (match_of state piece 0) row)) piece.rows
