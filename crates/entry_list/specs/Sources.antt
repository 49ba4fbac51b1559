-- The fields that an entry takes its values from (docs/DATA.md, "The list of entries").
use Rattle.std.specs.Prelude.{ℕ, Bool, if◌then◌else◌, List, [], Option, None, codes}
use Rattle.std.specs.Option.{option_map_or}
use Rattle.name_table.specs.Names.{same_name}
use Rattle.bib_read.specs.Names.{text_of}
use Rattle.bib_read.specs.RawFields.{RawField}
use Rattle.bib_read.specs.RawEntries.{RawEntry}
use Rattle.entry_list.specs.Fields.{or_else}

-- the fields of an entry, where there is one
abbrev pub fields_of : Option RawEntry → List RawField
fields_of entry = option_map_or (λ found. found.fields) entry []

-- the value of the field of this name among own fields and those of a parent; `crossref` is kept or missing
abbrev pub value_among : List RawField → List RawField → Bool → List ℕ → Option (List ℕ)
value_among own lent keeps name =
    if same_name name (codes "crossref") then (if keeps then text_of (codes "crossref") own else None)
    else or_else (text_of name own) (text_of name lent)
