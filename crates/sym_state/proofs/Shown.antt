-- What a proof shows holds by every assignment that satisfies the state.
use Rattle.std.proofs.Common.{◌≡◌, true, false, List, Option, None, Some, refl}
use Rattle.std.specs.Option.{option_map_or}
use Rattle.lin_facts.specs.Rows.{Holds}
use Rattle.lin_facts.specs.Follows.{follows}
use Rattle.lin_facts.specs.declared.row.Row.{Row}
use Rattle.lin_facts.specs.declared.row.Step.{Step}
use Rattle.lin_facts.proofs.Decided.{follows_then}
use Rattle.lin_facts.proofs.Sound.{sound}
use Rattle.name_table.specs.declared.style.Style.{Style}
use Rattle.bst_meaning.specs.declared.condition.Cond.{Cond}
use Rattle.sym_state.specs.declared.proof.Proof.{Proof}
use Rattle.sym_state.specs.State.{State}
use Rattle.sym_state.specs.Symbols.{Valuation, numbers}
use Rattle.sym_state.specs.References.{shows, rows_said, row_uses}
use Rattle.sym_state.specs.Stands.{Satisfies}
use Rattle.sym_state.proofs.Saying.{rows_hold, used_hold}

pub shown_holds : (style : Style) (admits : Cond) (v : Valuation) (state : State) (proof : Proof) (goal : Row)
    → Satisfies style admits v state → shows admits state proof goal ≡ true → Holds (numbers v) goal
shown_holds style admits v state proof goal h e =
    let step : Step = record { uses = row_uses 0 proof.uses; divisor = proof.divisor } in
    elim (rows_said admits state proof.uses) as (λ (o : Option (List Row)). rows_said admits state proof.uses ≡ o
    → option_map_or (λ rows. follows rows step goal) o false ≡ true → Holds (numbers v) goal) [
      | Some rows ↦ λ is found.
          sound (numbers v) rows step goal (follows_then rows step goal found)
          (used_hold (numbers v) rows step.uses (rows_hold style admits v state proof.uses rows h is))
      | None ↦ λ is found. absurd (cc)
    ] refl e
