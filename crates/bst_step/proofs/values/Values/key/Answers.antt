-- The key is that of the entry with the position.
use Rattle.std.proofs.Common.{◌∙◌, ap}
use Rattle.bst_step.specs.Machine.{key_at}
use Rattle.bst_step.specs.Values.{Holding}
use Rattle.bst_step.proofs.values.Values.key.Goals as goal

pub returns : goal.returns
returns c = c.key.ensures c.self.inside.pool.items ∙ ap (λ (h : Holding). key_at c.args.position h.entries) c.self.view_is
