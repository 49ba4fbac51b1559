-- The entry is that of the state at the place.
use Rattle.std.proofs.Common.{◌∙◌}
use Rattle.bst_step.proofs.ViewSteps.{seen_at}
use Rattle.bst_step.proofs.values.Values.entry.Goals as goal

pub returns : goal.returns
returns c = c.entry.ensures ∙ seen_at _ _ _ _ _ _ c.args.at (λ e. e.entry) c.self.view_is
