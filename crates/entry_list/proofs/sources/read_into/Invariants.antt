use Rattle.std.proofs.Common.{◌≡◌, take}
use Rattle.entry_list.proofs.sources.read_into.Given as goal

-- the fields so far
abbrev pub invariant-loop-at : goal.invariant-loop-at
invariant-loop-at l = l.found.items ≡ take l.at l.entry.fields
