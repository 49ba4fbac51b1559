use Rattle.std.proofs.Common.{◌≡◌, map, take}
use Rattle.name_table.proofs.names.table_of.Given as goal

abbrev pub invariant-loop-text : goal.invariant-loop-text
invariant-loop-text l = l.names ≡ map (λ entry. (entry.0.now, entry.1)) (take l.text-index l.table)
