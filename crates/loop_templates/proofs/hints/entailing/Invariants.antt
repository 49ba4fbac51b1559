-- The steps of the rows so far, and of those that are left.
use Rattle.std.proofs.Common.{◌≡◌, ◌++◌, drop, map}
use Rattle.straight_hints.specs.Found.{step_found}
use Rattle.straight_hints.specs.declared.finding.Finding.TheVariants.{Straight}
use Rattle.sym_state.specs.Entailing.{match_of}
use Rattle.sym_state.specs.Renaming.{row_renamed}
use Rattle.loop_templates.specs.Candidates.{entailing}
use Rattle.loop_templates.proofs.hints.entailing.Given as goal

abbrev pub invariant-loop-row : goal.invariant-loop-row
invariant-loop-row l = record {
  stays : l.search ≡ record { state = l.state; cond = l.cond };
  steps : l.hints.items ++ map (λ row. step_found Straight l.cond l.state (row_renamed (match_of l.state l.case 0) row)) (drop l.row-index l.row-items)
      ≡ entailing l.cond l.state l.number l.case;
}
