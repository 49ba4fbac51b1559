use Rattle.std.proofs.Common.{◌∙◌}
use Rattle.entry_store.proofs.Packed.{names_seen}
use Rattle.entry_store.proofs.packed_entries.PackedEntries.field_names.Goals as goal

pub returns : goal.returns
returns c =
    c.as_slice.ensures.value
    ∙ names_seen c.self.inside.names.items c.self.inside.texts c.self.inside.rows.items c.args.self.now c.args.at c.self.view_is c.requires
