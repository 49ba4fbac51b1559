use Rattle.std.proofs.Common.{◌∙◌, ap}
use Rattle.bv_base.specs.KeySets.{has_key}
use Rattle.bib_read.proofs.Places.{has_seen}
use Rattle.bib_read.proofs.key_places.KeyPlaces.has.Goals as goal

pub returns : goal.returns
returns c =
    c.contains.ensures
    ∙ has_seen (λ k. k.bytes.items) c.args.key.now c.self.inside.table.keys
    ∙ ap (has_key c.args.key.now) c.self.view_is
