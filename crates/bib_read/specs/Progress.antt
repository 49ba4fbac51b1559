-- How far a database is read (docs/DATA.md, "The .bib file").
use Rattle.std.specs.Prelude.{ℕ, List}
use Rattle.name_table.specs.declared.style.Macro.{Macro}
use Rattle.bib_read.specs.RawEntries.{RawEntry}
use Rattle.bib_read.specs.RawFields.{RawField}

-- the bytes that are left, and what has been read
pub record Progress : Type 0 where
  pub left : List ℕ
  pub macros : List Macro
  pub entries : List RawEntry
  pub preamble : List ℕ
  pub warnings : List (List ℕ)
  -- the pieces of the value that is being read, joined
  pub text : List ℕ
  -- the fields of the entry that is being read
  pub fields : List RawField
