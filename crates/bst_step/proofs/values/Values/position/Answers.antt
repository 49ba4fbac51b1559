-- The position is that of the state at the place.
use Rattle.std.proofs.Common.{◌∙◌}
use Rattle.bst_step.proofs.ViewSteps.{seen_at}
use Rattle.bst_step.proofs.values.Values.position.Goals as goal

pub returns : goal.returns
returns c = c.position.ensures ∙ seen_at _ _ _ _ _ _ c.args.at (λ e. e.position) c.self.view_is
