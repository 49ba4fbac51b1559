-- The hints by which states entail cases are short.
use Rattle.std.proofs.Common.{ℕ, ◌+◌, Bool, true, false, cond, arith, List, [], ◌∷◌, map, Option, Some, None}
use Rattle.std.specs.List.{All}
use Rattle.std.specs.Option.{option_map_or}
use Rattle.std.proofs.lemmas.List.Elements.{All-nil, All-cons}
use Rattle.bst_meaning.specs.declared.condition.Cond.{Cond}
use Rattle.lin_facts.specs.declared.row.Row.{Row}
use Rattle.straight_hints.specs.Found.{no_proof, proof_found, step_found}
use Rattle.straight_hints.specs.declared.finding.Finding.TheVariants.{Straight}
use Rattle.straight_hints.proofs.Short.{HasShort, proof_short}
use Rattle.sym_state.specs.Demands.{HasFewUses}
use Rattle.sym_state.specs.Entailing.{match_of}
use Rattle.sym_state.specs.Renaming.{row_renamed}
use Rattle.sym_state.specs.State.{State}
use Rattle.sym_state.specs.declared.hint.Hint.TheVariants.{Case, Step}
use Rattle.sym_state.specs.declared.piece.Piece.{Piece}
use Rattle.sym_state.specs.declared.proof.Proof.{Proof}
use Rattle.loop_templates.specs.Candidates.{entailing, entailing_one}
use Rattle.loop_templates.specs.Skeletons.{same_skeleton, skeleton}
use Rattle.loop_templates.specs.declared.candidates.Added.{Added}

-- a step by a short proof, or by none
step_short : (found : Option Proof) → HasShort found → HasFewUses (Step (option_map_or (λ proof. proof) found no_proof))
step_short (Some proof) short = omega (arith, short)
step_short None short = omega arith

steps_short : (admits : Cond) (state : State) (name : ℕ → ℕ) (rows : List Row) → All HasFewUses (map (λ row. step_found Straight admits state (row_renamed name row)) rows)
steps_short admits state name [] = All-nil HasFewUses
steps_short admits state name (row ∷ rows) =
    All-cons HasFewUses (step_found Straight admits state (row_renamed name row)) (map (λ row. step_found Straight admits state (row_renamed name row)) rows)
    (step_short (proof_found Straight admits state (row_renamed name row)) (proof_short Straight admits state (row_renamed name row)))
    (steps_short admits state name rows)

pub entailing_short : (admits : Cond) (state : State) (number : ℕ) (case : Piece) → All HasFewUses (entailing admits state number case)
entailing_short admits state number case =
    All-cons HasFewUses (Case number) (map (λ row. step_found Straight admits state (row_renamed (match_of state case 0) row)) case.rows) tt
    (steps_short admits state (match_of state case 0) case.rows)

pub one_short : (admits : Cond) (state : State) (number : ℕ) (added : List Added) → All HasFewUses (entailing_one admits state number added)
one_short admits state number [] = All-nil HasFewUses
one_short admits state number (one ∷ added) =
    elim (same_skeleton one.bones (skeleton state)) as (λ (b : Bool). All HasFewUses
    (cond b (entailing admits state number one.case) (entailing_one admits state (number + 1) added))) [
      | true ↦ entailing_short admits state number one.case
      | false ↦ one_short admits state (number + 1) added
    ]
