-- What the items of a database mean, one after the other (docs/DATA.md, "The .bib file").
use Rattle.std.specs.Prelude.{◌≡◌, ℕ, false, if◌then◌else◌, List, [], ◌∷◌, ◌++◌, Option, None, Some}
use Rattle.name_table.specs.Names.{lowered}
use Rattle.name_table.specs.declared.style.Macro.{Macro}
use Rattle.bib_read.specs.declared.database.Database.{Database}
use Rattle.bib_read.specs.RawFields.{RawField, or_nothing}
use Rattle.bib_read.specs.Grammar.{Piece, Braced, Quoted, Digits, Named, FieldTree, Item, Comment, Definition, Preamble, Entry, Spells}
use Rattle.bib_read.specs.Names.{all_defined, defined, has_entry, has_field, value_of}
use Rattle.bib_read.specs.Squeeze.{squeezed, trimmed}
use Rattle.bib_read.specs.Warnings.{second_field, undefined_macro}

-- a macro that isn't defined gives a warning
abbrev pub warned : List ℕ → Option (List ℕ) → List (List ℕ)
warned name (Some value) = []
warned name None = undefined_macro name ∷ []

-- the text of a piece, which for a name is that macro's value
abbrev pub piece_text : List Macro → Piece → List ℕ
piece_text macros (Braced text) = text
piece_text macros (Quoted text) = text
piece_text macros (Digits text) = text
piece_text macros (Named name) = or_nothing (value_of (lowered name) macros)

-- the warnings of a piece: of a macro that isn't defined
abbrev pub piece_warnings : List Macro → Piece → List (List ℕ)
piece_warnings macros (Named name) = warned (lowered name) (value_of (lowered name) macros)
piece_warnings macros _ = []

-- the pieces of a value, joined
abbrev pub value_text : List Macro → List Piece → List ℕ
value_text macros [] = []
value_text macros (piece ∷ pieces) = piece_text macros piece ++ value_text macros pieces

-- the warnings of the pieces of a value, in order
abbrev pub value_warnings : List Macro → List Piece → List (List ℕ)
value_warnings macros [] = []
value_warnings macros (piece ∷ pieces) = piece_warnings macros piece ++ value_warnings macros pieces

-- a field after others; a second one of a name is ignored
abbrev pub and_field : List Macro → FieldTree → List RawField → List RawField
and_field macros field before =
    if has_field (lowered field.name) before then before
    else before ++ record { name = lowered field.name; value = trimmed (value_text macros field.value) } ∷ []

-- a second field of a name gives a warning, before those of its value
abbrev pub field_warnings : List Macro → List ℕ → FieldTree → List RawField → List (List ℕ)
field_warnings macros key field before =
    (if has_field (lowered field.name) before then second_field (lowered field.name) key ∷ [] else [])
    ++ value_warnings macros field.value

-- fields after others, one after the other
abbrev pub and_fields : List Macro → List FieldTree → List RawField → List RawField
and_fields macros [] before = before
and_fields macros (field ∷ fields) before = and_fields macros fields (and_field macros field before)

-- the warnings of fields after others, in order
abbrev pub fields_warnings : List Macro → List ℕ → List FieldTree → List RawField → List (List ℕ)
fields_warnings macros key [] before = []
fields_warnings macros key (field ∷ fields) before =
    field_warnings macros key field before ++ fields_warnings macros key fields (and_field macros field before)

-- a database after an item; there is none where an entry's key is that of an entry before it
abbrev pub and_item : Item → Database → Option Database
and_item (Comment word) d = Some d
and_item (Definition word name value) d =
    Some (record d {
      macros = defined (lowered name) (squeezed false (value_text d.macros value)) d.macros;
      warnings = d.warnings ++ value_warnings d.macros value;
    })
and_item (Preamble word value) d =
    Some (record d {
      preamble = d.preamble ++ squeezed false (value_text d.macros value);
      warnings = d.warnings ++ value_warnings d.macros value;
    })
and_item (Entry word key fields) d =
    if has_entry (lowered key) d.entries then None
    else Some (record d {
      entries = d.entries ++ record { key = key; entry_type = lowered word; fields = and_fields d.macros fields [] } ∷ [];
      warnings = d.warnings ++ fields_warnings d.macros key fields [];
    })

-- what is wanted of a database, where there is one
abbrev pub where_some : Option Database → (Database → Option Database) → Option Database
where_some None next = None
where_some (Some d) next = next d

-- a database after items, one after the other, where there is one
abbrev pub and_items : List Item → Database → Option Database
and_items [] d = Some d
and_items (item ∷ items) d = where_some (and_item item d) (and_items items)

-- a text, read after the databases before it, is a database: it spells items, and these give it
pub record BibReads (source : List ℕ) (before database : Database) : Type 0 where
  pub items : List Item
  pub spelled : Spells items source
  pub meant : and_items items (record before { macros = all_defined before.macros [] }) ≡ Some database
