-- The list of entries, and the warnings of joining it (docs/DATA.md, "The list of entries").
use Rattle.std.specs.Prelude.{ℕ, List, ◌++◌, map}
use Rattle.name_table.specs.declared.style.Style.{Style}
use Rattle.aux_read.specs.declared.aux.AuxItem.{AuxItem}
use Rattle.bib_read.specs.declared.database.Database.{Database}
use Rattle.bib_read.specs.RawEntries.{RawEntry}
use Rattle.bst_meaning.specs.EntryLists.{Entry}
use Rattle.entry_list.specs.declared.joined.Joined.{Joined}
use Rattle.entry_list.specs.Citing.{no_entries}
use Rattle.entry_list.specs.Fields.{declared_fields, joined_entry}
pub use Rattle.entry_list.specs.Fields.{without_parents}
use Rattle.entry_list.specs.Keys.{Listed}
pub use Rattle.entry_list.specs.Keys.{AreCitations}
pub use Rattle.entry_list.specs.Parents.{appended, whole_list}

-- the entries of a list, with the fields that a style declares
abbrev pub all_joined : Style → List RawEntry → List Listed → List Entry
all_joined style entries list = map (joined_entry (declared_fields style) entries list) list

-- the warnings of citations without an entry, and then those of listed entries without their parent
abbrev pub all_warnings : List AuxItem → List RawEntry → List (List ℕ)
all_warnings items entries = no_entries items entries ++ without_parents entries (whole_list items entries)

-- what a style, the citations and the databases are joined to
abbrev pub joined : Style → List AuxItem → Database → Joined
joined style items database =
    record {
      list =
          record {
            entries = all_joined style database.entries (whole_list items database.entries);
            preamble = database.preamble;
          };
      warnings = all_warnings items database.entries;
    }
