use Rattle.std.proofs.Common.{◌∙◌, ap}
use Rattle.bv_base.specs.KeySets.{has_key}
use Rattle.bib_read.specs.Names.{has_entry}
use Rattle.bib_read.proofs.Places.{has_keyed}
use Rattle.bib_read.proofs.entries.Entries.has.Goals as goal

pub returns : goal.returns
returns c =
    let key = c.args.key.now in
    c.has.ensures
    ∙ ap (has_key key) c.self.invariant
    ∙ has_keyed key c.self.inside.list
    ∙ ap (has_entry key) c.self.view_is
