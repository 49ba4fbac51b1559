-- The fields of an entry (docs/MACHINE.md, "Entries").
use Rattle.std.specs.Prelude.{ℕ, List, Option}
use Rattle.name_table.specs.declared.names.NameId.{NameId}

-- a field of an entry: its bytes, or that it is missing
pub record FieldValue : Type 0 where
  pub name : NameId
  pub value : Option (List ℕ)
