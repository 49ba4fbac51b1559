use Rattle.std.proofs.Common.{◌∙◌, ap, map, not}
use Rattle.bv_base.specs.KeySets.{has_key, with_key}
use Rattle.bv_base.proofs.KeyLists.{bytes_with, has_bytes, has_with}
use Rattle.bv_base.proofs.key_set.KeySet.add.Goals as goal

pub returns-clause-fresh : goal.returns-clause-fresh
returns-clause-fresh c =
    c.in-Ok.ensures.added
    ∙ ap not (has_bytes c.args.key.items c.self.inside.table.keys ∙ ap (has_key c.args.key.items) c.self.view_is)

pub returns-clause-keys : goal.returns-clause-keys
returns-clause-keys c =
    ap (map (λ k. k.items)) c.in-Ok.ensures.keys
    ∙ bytes_with c.args.key c.self.inside.table.keys
    ∙ ap (with_key c.args.key.items) c.self.view_is

pub returns-clause-members : goal.returns-clause-members
returns-clause-members c =
    λ other. ap (has_key other) (returns-clause-keys c) ∙ has_with c.args.key.items c.args.self.now other
