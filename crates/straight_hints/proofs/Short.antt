-- The hints that are found have short proofs.
use Rattle.std.proofs.Common.{◌≡◌, ◌≤◌, List, length, map, Option, None, Some, Result, Ok, Err, IfOk, refl, arith, subst, sym, [], ◌∷◌}
use Rattle.std.specs.Prelude.{slice_index_or}
use Rattle.std.specs.Global.{Vec}
use Rattle.std.specs.List.{All}
use Rattle.std.specs.Option.{IfSome, option_map_or}
use Rattle.std.proofs.lemmas.List.Elements.{All-cons, All-nil}
use Rattle.bv_base.specs.declared.memory.NoMemory.{NoMemory}
use Rattle.lin_facts.specs.declared.row.Row.{Row}
use Rattle.name_table.specs.declared.builtin.Builtin.{Builtin}
use Rattle.name_table.specs.declared.style.Style.{Style}
use Rattle.bst_meaning.specs.declared.condition.Cond.{Cond}
use Rattle.sym_state.specs.Demands.{HasFewUses}
use Rattle.sym_state.specs.Effects.{rule_of}
use Rattle.sym_state.specs.State.{State}
use Rattle.sym_state.specs.declared.hint.Hint.{Hint}
use Rattle.sym_state.specs.declared.hint.Hint.TheVariants.{Drop, Keep, Step}
use Rattle.sym_state.specs.declared.proof.Proof.{Proof}
use Rattle.sym_state.specs.declared.symbol.Sym.{Sym}
use Rattle.sym_state.specs.declared.test.Test.{Test}
use Rattle.sym_state.specs.declared.piece.Piece.{Piece}
use Rattle.sym_state.specs.Entailing.{match_of}
use Rattle.sym_state.specs.Renaming.{row_renamed}
use Rattle.straight_proofs.specs.Straight.{drop_proof, straight_proof}
use Rattle.straight_proofs.specs.declared.straight.TheConstants.{MOST_REFERENCES}
use Rattle.straight_proofs.proofs.AddingUp.{drop_is_short, straight_is_short}
use Rattle.straight_hints.specs.declared.finding.Finding.{Finding}
use Rattle.straight_hints.specs.declared.finding.Finding.TheVariants.{Bare, Straight}
use Rattle.straight_hints.specs.Found.{above_hints, case_hints, drop_found, no_proof, piece_hints, plain_hints, proof_found, step_found, test_hints}
use Rattle.straight_hints.proofs.Every.{Has, above_has, cases_have, rule_has, test_has}

-- a proof that is found is short
abbrev pub HasShort : Option Proof → Type 0
HasShort found = IfSome found (λ proof. length proof.uses ≤ MOST_REFERENCES)

pub proof_short : (finding : Finding) (admits : Cond) (state : State) (goal : Row) → HasShort (proof_found finding admits state goal)
proof_short Bare admits state goal = tt
proof_short Straight admits state goal = straight_is_short {E = NoMemory} admits state goal (Ok (straight_proof admits state goal)) refl

pub drop_short : (finding : Finding) (admits : Cond) (state : State) → HasShort (drop_found finding admits state)
drop_short Bare admits state = tt
drop_short Straight admits state = drop_is_short {E = NoMemory} admits state (Ok (drop_proof admits state)) refl

-- and so is each hint by it
step_by : (found : Option Proof) → HasShort found → HasFewUses (Step (option_map_or (λ proof. proof) found no_proof))
step_by (Some proof) short = omega (arith, short)
step_by None short = omega arith

chosen_by : (found : Option Proof) → HasShort found → IfSome found (λ proof. HasFewUses (Step proof))
chosen_by (Some proof) short = omega (arith, short)
chosen_by None short = tt

case_by : (found : Option Proof) → HasShort found → HasFewUses (option_map_or Drop found Keep)
case_by (Some proof) short = omega (arith, short)
case_by None short = tt

every_short : (finding : Finding) (admits : Cond) (state : State) → Has HasFewUses finding admits state
every_short finding admits state = record {
  step = λ goal. step_by (proof_found finding admits state goal) (proof_short finding admits state goal);
  chosen = λ goal. chosen_by (proof_found finding admits state goal) (proof_short finding admits state goal);
  case = case_by (drop_found finding admits state) (drop_short finding admits state);
}

all_short : (finding : Finding) (admits : Cond) (states : List State) → All (Has HasFewUses finding admits) states
all_short finding admits states = λ k other within. every_short finding admits (slice_index_or states k other)

pub plain_short : (finding : Finding) (style : Style) (admits : Cond) (state : State) (op : Builtin)
    → All HasFewUses (plain_hints finding style admits state op)
plain_short finding style admits state op =
    rule_has HasFewUses tt finding admits state (every_short finding admits state) (rule_of style admits state op)

pub cases_short : (finding : Finding) (admits : Cond) (states : List State) (left : List Hint) → All HasFewUses (case_hints finding admits states left)
cases_short finding admits states left = cases_have HasFewUses finding admits states left (λ none. all_short finding admits states)

pub test_short : (finding : Finding) (admits : Cond) (state : State) (test : Test) → All HasFewUses (test_hints finding admits state test)
test_short finding admits state test = test_has HasFewUses finding admits state test (λ cases e none. all_short finding admits cases.states)

pub above_short : (finding : Finding) (admits : Cond) (state : State) (s : Sym) → All HasFewUses (above_hints finding admits state s)
above_short finding admits state s =
    above_has HasFewUses finding admits state s (λ labelled e none. all_short finding admits (map (λ case. case.1) labelled.cases))

rows_short : (finding : Finding) (admits : Cond) (state : State) (named : Row → Row) (rows : List Row)
    → All HasFewUses (map (λ row. step_found finding admits state (named row)) rows)
rows_short finding admits state named [] = All-nil HasFewUses
rows_short finding admits state named (row ∷ rows) =
    All-cons HasFewUses (step_found finding admits state (named row)) (map (λ row. step_found finding admits state (named row)) rows)
    ((every_short finding admits state).step (named row)) (rows_short finding admits state named rows)

pub piece_short : (finding : Finding) (admits : Cond) (state : State) (piece : Piece) → All HasFewUses (piece_hints finding admits state piece)
piece_short finding admits state piece = rows_short finding admits state (row_renamed (match_of state piece 0)) piece.rows

-- what is found by a definition whose hints are short is short
pub found_short : {E : Type 0} (wanted : List Hint) (result : Result (Vec Hint) E) → All HasFewUses wanted → IfOk result (λ hints. hints.items ≡ wanted)
    → IfOk result (λ hints. All HasFewUses hints.items)
found_short wanted (Ok hints) short is = subst (All HasFewUses) (sym is) short
found_short wanted (Err fault) short is = tt
