use Rattle.std.proofs.Common.{◌≡◌, drop}
use Rattle.std.specs.List.{filter}
use Rattle.bst_meaning.specs.Config.{is_step}
use Rattle.bst_step.proofs.commands.first_step.Given as goal

-- none that was passed takes steps
abbrev pub invariant-loop-at : goal.invariant-loop-at
invariant-loop-at l = filter (λ c. is_step c.command) (drop l.at-index l.commands) ≡ filter (λ c. is_step c.command) l.commands
