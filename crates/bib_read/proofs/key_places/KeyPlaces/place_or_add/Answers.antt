-- The key stands at its place, or behind the others.
use Rattle.std.proofs.Common.{◌≡◌, ap, arith, length, sym, List, ℕ}
use Rattle.std.proofs.lemmas.List.{length-map}
use Rattle.bib_read.specs.declared.key_places.Key.{Key}
use Rattle.bib_read.proofs.Places.{key_behind, key_placed}
use Rattle.bib_read.proofs.key_places.KeyPlaces.place_or_add.Goals as goal

pub returns-in-Some-clause-placed : goal.returns-in-Some-clause-placed
returns-in-Some-clause-placed c = key_placed c.args.key.now c.args.self.now c.in-Some.at (sym c.in-Some.ensures.place)

pub returns-clause-placed : goal.returns-clause-placed
returns-clause-placed c =
    let keys : List Key = c.self.inside.table.keys in
    let count : c.len-at.result ≡ length c.args.self.now =
    omega (arith, c.len-at.ensures.len, length-map keys (λ key. key.bytes.items), ap (λ (l : List (List ℕ)). length l) c.self.view_is) in
    key_behind c.args.self.now c.add.new.self c.args.key.now c.len-at.result count c.in_ok-add.ensures.added
