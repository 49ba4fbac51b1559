-- What was there stays, though memory was wanting behind it.
use Rattle.std.proofs.Common.{◌∷◌, []}
use Rattle.bib_read.proofs.PackedEntries.{grown_twice}
use Rattle.bib_read.proofs.PackedFields.{without_more}
use Rattle.bib_read.proofs.packed_entries.append.Goals as goal

pub returns-in_err-append_fields-clause-grown : goal.returns-in_err-append_fields-clause-grown
returns-in_err-append_fields-clause-grown c =
    grown_twice c.args.packed.now c.push.new.self c.append_fields.new.packed
    (without_more c.args.packed.now c.push.new.self (record { name = c.args.entry_type.now; value = c.args.key.now } ∷ []) c.in_ok-push.ensures.ok)
    c.append_fields.ensures.grown
