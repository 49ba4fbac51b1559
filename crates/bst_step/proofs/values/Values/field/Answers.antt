-- The field is that of the entry of the state at the place.
use Rattle.std.proofs.Common.{◌∙◌}
use Rattle.bst_meaning.specs.Machine.{field_in}
use Rattle.bst_step.proofs.ViewSteps.{seen_at}
use Rattle.bst_step.proofs.values.Values.field.Goals as goal

pub returns : goal.returns
returns c = c.field.ensures ∙ seen_at _ _ _ _ _ _ c.args.at (λ e. field_in c.args.name e.entry.fields) c.self.view_is
