-- Entries and their lists (docs/MACHINE.md, "Entries").
use Rattle.std.specs.Prelude.{ℕ, List}
use Rattle.bst_meaning.specs.FieldValues.{FieldValue}

-- an entry: its key as the citation spells it, its type, and each declared field and `crossref`, in the order of their ids
pub record Entry : Type 0 where
  pub key : List ℕ
  pub entry_type : List ℕ
  pub fields : List FieldValue

-- the entries of a run in order, and the database's preamble
pub record EntryList : Type 0 where
  pub entries : List Entry
  pub preamble : List ℕ
