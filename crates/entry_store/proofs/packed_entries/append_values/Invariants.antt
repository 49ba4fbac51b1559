use Rattle.std.proofs.Common.{◌≡◌, ◌++◌, map}
use Rattle.std.specs.Option.{option_map}
use Rattle.entry_store.specs.PackedEntries.{values_of}
use Rattle.entry_store.proofs.packed_entries.append_values.Given as goal

-- the values so far are appended
abbrev pub invariant-loop-at : goal.invariant-loop-at
invariant-loop-at l = l.texts ≡ l.initial.texts ++ values_of l.at (map (option_map (λ text. text.now)) l.values)
