-- Names and keys that are there already, and macros and entries by theirs (docs/DATA.md, "The .bib file").
use Rattle.std.specs.Prelude.{ℕ, Bool, if◌then◌else◌, List, [], ◌∷◌, map, Option, None, Some}
use Rattle.std.specs.List.{list_any}
use Rattle.bv_base.specs.KeySets.{has_item}
use Rattle.name_table.specs.Names.{lowered, same_name}
use Rattle.name_table.specs.declared.style.Macro.{Macro}
use Rattle.bib_read.specs.RawEntries.{RawEntry}
use Rattle.bib_read.specs.RawFields.{RawField}

-- a field of this name is among these
abbrev pub has_field : List ℕ → List RawField → Bool
has_field name fields = list_any (λ field. same_name name field.name) fields

-- the text of the field of this name
abbrev pub text_of : List ℕ → List RawField → Option (List ℕ)
text_of name [] = None
text_of name (first ∷ rest) = if same_name name first.name then Some first.value else text_of name rest

-- an entry with this lowered key is among these
abbrev pub has_entry : List ℕ → List RawEntry → Bool
has_entry key entries = has_item (λ entry. lowered entry.key) key entries

-- the lowered keys of entries
abbrev pub lowered_keys : List RawEntry → List (List ℕ)
lowered_keys entries = map (λ entry. lowered entry.key) entries

-- the entry with this lowered key
abbrev pub entry_under : List ℕ → List RawEntry → Option RawEntry
entry_under key [] = None
entry_under key (first ∷ rest) = if same_name key (lowered first.key) then Some first else entry_under key rest

-- the value of the macro of this name
abbrev pub value_of : List ℕ → List Macro → Option (List ℕ)
value_of name [] = None
value_of name (first ∷ rest) = if same_name name first.name then Some first.value else value_of name rest

-- the macros with one that is defined: in the place of one of its name, or as the last
abbrev pub defined : List ℕ → List ℕ → List Macro → List Macro
defined name value [] = record { name = name; value = value } ∷ []
defined name value (first ∷ rest) =
    if same_name name first.name then record { name = first.name; value = value } ∷ rest
    else first ∷ defined name value rest

-- the macros with others that are defined one after the other
abbrev pub all_defined : List Macro → List Macro → List Macro
all_defined [] macros = macros
all_defined (first ∷ rest) macros = all_defined rest (defined first.name first.value macros)
