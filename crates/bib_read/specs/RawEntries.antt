-- The entries of databases, and how they stand in one piece of memory (docs/DATA.md, "Entries").
use Rattle.std.specs.Prelude.{ℕ, suc, ◌+◌, ◌<◌, List, drop, get_or, length, map, take}
use Rattle.std.specs.List.{AllByRecursion}
use Rattle.bib_read.specs.RawFields.{RawField, no_field}
use Rattle.bib_read.specs.declared.row.Row.{Row}

-- an entry as it stands in its database
pub record RawEntry : Type 0 where
  -- the key, spelled as in the database
  pub key : List ℕ
  -- the lowered type
  pub entry_type : List ℕ
  -- the fields in order, none twice
  pub fields : List RawField

-- the entry that begins at a place: there stands its key under its type, and behind it its fields
abbrev pub entry_in : List RawField → Row → RawEntry
entry_in fields row =
    record {
      key = (get_or fields row.begin no_field).value;
      entry_type = (get_or fields row.begin no_field).name;
      fields = take row.count (drop (suc row.begin) fields);
    }

-- a row ends where something stands
abbrev pub IsWithin : List RawField → Row → Type 0
IsWithin fields row = row.begin + row.count < length fields

-- the entries that begin at some places
abbrev pub entries_in : List RawField → List Row → List RawEntry
entries_in fields rows = map (entry_in fields) rows

-- all of these entries end where something stands
abbrev pub AreWithin : List RawField → List Row → Type 0
AreWithin fields rows = AllByRecursion (IsWithin fields) rows
