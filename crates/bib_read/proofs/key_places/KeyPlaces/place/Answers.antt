use Rattle.std.proofs.Common.{◌∙◌, ap, nat_eq, position}
use Rattle.std.specs.Cmp.Lexicographic.{pointwise}
use Rattle.bv_base.specs.KeySets.{has_key}
use Rattle.bib_read.proofs.Places.{has_seen, place_seen}
use Rattle.bib_read.proofs.key_places.KeyPlaces.place.Goals as goal

pub returns-clause-place : goal.returns-clause-place
returns-clause-place c =
    c.get_index_of.ensures.index
    ∙ place_seen (λ k. k.bytes.items) (pointwise nat_eq c.args.key.now) c.self.inside.table.keys
    ∙ ap (position (pointwise nat_eq c.args.key.now)) c.self.view_is

pub returns-clause-found : goal.returns-clause-found
returns-clause-found c =
    c.get_index_of.ensures.found
    ∙ has_seen (λ k. k.bytes.items) c.args.key.now c.self.inside.table.keys
    ∙ ap (has_key c.args.key.now) c.self.view_is
