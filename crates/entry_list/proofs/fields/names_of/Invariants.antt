use Rattle.std.proofs.Common.{◌≡◌, map, take}
use Rattle.entry_list.proofs.fields.names_of.Given as goal

-- the names so far are those of the fields so far
abbrev pub invariant-loop-field : goal.invariant-loop-field
invariant-loop-field l = l.names.items ≡ map (λ field. field.id) (take l.field-index l.fields)
