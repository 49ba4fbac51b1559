-- Entry lists that fit a style (docs/MACHINE.md, "Entries").
use Rattle.std.specs.Prelude.{◌≡◌, ℕ, ◌+◌, List, [], ◌∷◌, map}
use Rattle.std.specs.List.{AllByRecursion}
use Rattle.std.specs.Option.{ForSome}
use Rattle.bv_base.specs.Keys.{IsKey}
use Rattle.name_table.specs.declared.names.NameId.{NameId}
use Rattle.name_table.specs.declared.names.Kind.{Kind}
use Rattle.name_table.specs.declared.names.Kind.TheVariants.{Field}
use Rattle.name_table.specs.declared.style.Style.{Style}
pub use Rattle.name_table.specs.Numbers.{IsByteList}
use Rattle.bst_meaning.specs.EntryLists.{Entry, EntryList}

-- the number, where this is a field
abbrev pub field_ids_at : ℕ → Kind → List NameId → List NameId
field_ids_at id Field later = record { 0 = id } ∷ later
field_ids_at id _ later = later

-- the fields among these names, which are numbered from here
abbrev pub field_ids_from : ℕ → List (List ℕ × Kind) → List NameId
field_ids_from id [] = []
field_ids_from id (name ∷ names) = field_ids_at id name.1 (field_ids_from (id + 1) names)

-- the fields of a style, crossref among them, in the order of their ids
abbrev pub field_ids : Style → List NameId
field_ids style = field_ids_from 0 style.names

-- one entry has a key, and each field of the style and no other
pub record EntryFits (style : Style) (entry : Entry) : Type 0 where
  pub key : IsKey entry.key
  pub key_bytes : IsByteList entry.key
  pub type_bytes : IsByteList entry.entry_type
  pub fields : map (λ f. f.name) entry.fields ≡ field_ids style
  pub field_bytes : AllByRecursion (λ f. ForSome f.value IsByteList) entry.fields

-- a list is one that a style can be run over
pub record Fits (style : Style) (list : EntryList) : Type 0 where
  pub entries : AllByRecursion (EntryFits style) list.entries
  pub preamble_bytes : IsByteList list.preamble
