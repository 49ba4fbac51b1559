use Rattle.std.proofs.Common.{◌≡◌, drop}
use Rattle.bst_meaning.specs.Machine as rule
use Rattle.bst_step.proofs.fields.field_among.Given as goal

-- the rest of the list has the field that the whole has
abbrev pub invariant-loop-at : goal.invariant-loop-at
invariant-loop-at l = rule.field_in l.name (drop l.at l.entry.fields) ≡ rule.field_in l.name l.entry.fields
