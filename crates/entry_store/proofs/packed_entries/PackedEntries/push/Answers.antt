-- An entry more stands behind the others.
use Rattle.std.proofs.Common.{arith, map}
use Rattle.std.specs.Option.{option_map}
use Rattle.entry_store.proofs.Packed.{pushed}
use Rattle.entry_store.proofs.packed_entries.PackedEntries.push.Goals as goal

pub returns-clause-ok : goal.returns-clause-ok
returns-clause-ok c =
    pushed c.self.inside.names.items c.self.inside.texts c.append.new.texts c.self.inside.rows.items c.append.new.rows.items c.len-fields.result
    c.args.key.now c.args.entry_type.now (map (option_map (λ text. text.now)) c.args.values.now) c.args.self.now
    c.self.view_is c.self.invariant (omega (arith, c.len-fields.ensures)) c.in-Ok.ensures.texts c.in-Ok.ensures.rows
