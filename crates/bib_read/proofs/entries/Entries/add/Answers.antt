use Rattle.std.proofs.Common.{◌∙◌, ap}
use Rattle.bv_base.specs.KeySets.{has_key}
use Rattle.bib_read.specs.Names.{has_entry}
use Rattle.bib_read.proofs.Places.{has_keyed}
use Rattle.bib_read.proofs.entries.Entries.add.Goals as goal

-- no entry has the key, so it isn't among theirs
pub add-requires : goal.add-requires
add-requires c =
    let key = c.args.lowered_key.now in
    ap (has_key key) c.self.invariant
    ∙ has_keyed key c.self.inside.list
    ∙ ap (has_entry key) c.self.view_is
    ∙ c.requires.fresh
