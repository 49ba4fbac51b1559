-- The fields of a listed entry (docs/DATA.md, "The list of entries").
use Rattle.std.specs.Prelude.{ℕ, ◌+◌, Bool, false, if◌then◌else◌, List, [], ◌∷◌, Option, None, Some, codes, flat_map, map, is_some}
use Rattle.std.specs.Option.{option_and_then, option_map_or}
use Rattle.name_table.specs.declared.names.NameId.{NameId}
use Rattle.name_table.specs.declared.names.Kind.{Kind}
use Rattle.name_table.specs.declared.names.Kind.TheVariants.{Field}
use Rattle.name_table.specs.declared.style.Style.{Style}
use Rattle.name_table.specs.Names.{same_name}
use Rattle.bst_meaning.specs.EntryLists.{Entry}
use Rattle.bst_meaning.specs.FieldValues.{FieldValue}
use Rattle.bib_read.specs.RawEntries.{RawEntry}
use Rattle.entry_list.specs.Keys.{Listed, entry_of, is_listed}
use Rattle.entry_list.specs.Parents.{text_of, crossref_of, parent_of}
use Rattle.entry_list.specs.Warnings.{no_parent}

-- a field of a style: its id and its name
pub record Declared : Type 0 where
  pub id : NameId
  pub name : List ℕ

-- a name, where it is a field
abbrev pub declared_at : ℕ → List ℕ → Kind → List Declared → List Declared
declared_at id name Field later = record { id = record { 0 = id }; name = name } ∷ later
declared_at id name _ later = later

-- the fields among these names, which are numbered from here
abbrev pub declared_from : ℕ → List (List ℕ × Kind) → List Declared
declared_from id [] = []
declared_from id (name ∷ names) = declared_at id name.0 name.1 (declared_from (id + 1) names)

-- the fields of a style, crossref among them, in the order of their ids
abbrev pub declared_fields : Style → List Declared
declared_fields style = declared_from 0 style.names

-- the first text, or else the second
abbrev pub or_else : Option (List ℕ) → Option (List ℕ) → Option (List ℕ)
or_else (Some text) other = Some text
or_else None other = other

-- the value of the field of this name of an entry: its own text or else its parent's; `crossref` is kept or missing
abbrev pub value_of : RawEntry → Option RawEntry → Bool → List ℕ → Option (List ℕ)
value_of entry parent keeps name =
    if same_name name (codes "crossref") then (if keeps then crossref_of entry else None)
    else or_else (text_of name entry.fields) (option_and_then (λ found. text_of name found.fields) parent)

-- the parent is there, and is in the list
abbrev pub is_parent_listed : List Listed → Option RawEntry → Bool
is_parent_listed list parent = option_map_or (λ found. is_listed found.key list) parent false

-- the values of fields
abbrev pub values_of : List Declared → RawEntry → Option RawEntry → Bool → List FieldValue
values_of fields entry parent keeps =
    map (λ field. record { name = field.id; value = value_of entry parent keeps field.name }) fields

-- an entry of the list with each of these fields and no other, by its parent; `crossref` is kept or missing
abbrev pub entry_with : List Declared → Listed → Option RawEntry → Bool → Entry
entry_with fields listed parent keeps =
    record {
      key = listed.key;
      entry_type = listed.entry.entry_type;
      fields = values_of fields listed.entry parent keeps;
    }

-- an entry of the list, among whose entries its parent is looked for
abbrev pub joined_entry : List Declared → List RawEntry → List Listed → Listed → Entry
joined_entry fields entries list listed =
    let parent = parent_of entries listed.entry in entry_with fields listed parent (is_parent_listed list parent)

-- the warning of a `crossref` that names no entry
abbrev pub without_parent : List RawEntry → Listed → List (List ℕ)
without_parent entries listed =
    option_map_or
    (λ parent. if is_some (entry_of parent entries) then [] else no_parent parent listed.key ∷ [])
    (crossref_of listed.entry) []

-- the warnings of the entries of a list without their parent
abbrev pub without_parents : List RawEntry → List Listed → List (List ℕ)
without_parents entries list = flat_map (without_parent entries) list
