use Rattle.std.proofs.Common.{◌≡◌, ◌++◌, take}
use Rattle.bib_read.proofs.packed_entries.append_fields.Given as goal

-- the fields so far
abbrev pub invariant-loop-at : goal.invariant-loop-at
invariant-loop-at l = l.packed ≡ l.initial.packed ++ take l.at l.fields
