use Rattle.std.proofs.Common.{◌≡◌, length}
use Rattle.std.specs.List.{filter}
use Rattle.bst_meaning.specs.Config.{is_step}
use Rattle.bst_step.proofs.commands.after_step.Given as goal

-- those that take steps are still left
abbrev pub invariant-loop-left : goal.invariant-loop-left
invariant-loop-left l = filter (λ c. is_step c.command) l.left ≡ filter (λ c. is_step c.command) l.commands

abbrev pub decreases-loop-left : goal.decreases-loop-left
decreases-loop-left l = length l.left
