-- The first that takes steps is found.
use Rattle.std.proofs.Common.{◌∙◌, sym}
use Rattle.name_table.specs.declared.style.CommandAt.{CommandAt}
use Rattle.bst_meaning.specs.Config.{is_step}
use Rattle.bst_step.proofs.CommandSteps.{first_found}
use Rattle.bst_step.proofs.commands.first_step.Goals as goal

pub returns-then-is_step : goal.returns-then-is_step
returns-then-is_step c =
    first_found (λ (at : CommandAt). is_step at.command) c.loop-at.at-index c.args.commands.now _ c.loop-at-test.true
    (sym c.is_step.ensures ∙ c.if-is_step.true) c.loop-at.invariant
