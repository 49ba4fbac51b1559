use Rattle.std.proofs.Common.{◌∙◌, ap, map}
use Rattle.bib_read.proofs.Places.{put_behind}
use Rattle.bib_read.proofs.key_places.KeyPlaces.add.Goals as goal

pub returns-clause-added : goal.returns-clause-added
returns-clause-added c =
    ap (map (λ k. k.bytes.items)) c.in-Ok.ensures.keys
    ∙ put_behind (λ k. k.bytes.items) c.self.inside.table.keys (record { bytes = c.in_ok-bytes.bytes }) c.args.self.now c.args.key.now
    c.self.view_is c.in_ok-bytes.ensures.ok c.requires
