-- Entries that stand as texts, one after the other: of each its key, its type, and then the values that it has.
use Rattle.std.specs.Prelude.{ℕ, suc, ◌+◌, ◌≤◌, List, [], ◌∷◌, ◌++◌, Option, None, Some, drop, get_or, length, map, take, unwrap_or}
use Rattle.std.specs.List.{AllByRecursion}
use Rattle.name_table.specs.declared.names.NameId.{NameId}
use Rattle.bst_meaning.specs.EntryLists.{Entry}
use Rattle.bst_meaning.specs.FieldValues.{FieldValue}
use Rattle.entry_store.specs.NumberedTexts.{Numbered, no_text, text_under, under_places}
use Rattle.entry_store.specs.declared.row.Row.{Row}

-- the fields with these names and these values; those without a value are missing
abbrev pub named : List NameId → List (Option (List ℕ)) → List FieldValue
named [] values = []
named (name ∷ names) [] = record { name = name; value = None } ∷ named names []
named (name ∷ names) (value ∷ values) = record { name = name; value = value } ∷ named names values

-- entries whose fields have the same names
pub record Alike : Type 0 where
  pub names : List NameId
  pub entries : List Entry

-- these entries with one more
abbrev pub with_one : Entry → Alike → Alike
with_one entry alike = record { names = alike.names; entries = alike.entries ++ entry ∷ [] }

-- these entries with one more, which has this key, this type and these values of its fields
abbrev pub with_entry : List ℕ → List ℕ → List (Option (List ℕ)) → Alike → Alike
with_entry key entry_type values alike =
    with_one (record { key = key; entry_type = entry_type; fields = named alike.names values }) alike

-- an entry that has nothing
abbrev pub nothing : Entry
nothing = record { key = []; entry_type = []; fields = [] }

-- the bytes of a text, and none where it is missing
abbrev pub bytes_in : Option (List ℕ) → List ℕ
bytes_in text = unwrap_or text []

-- the fields with these names, each with the text under its place, where the first place is this
abbrev pub fields_from : ℕ → List NameId → List Numbered → List FieldValue
fields_from place [] texts = []
fields_from place (name ∷ names) texts = record { name = name; value = text_under place texts } ∷ fields_from (suc place) names texts

-- the entry with a row: where it begins stands its key, then its type, and behind them the values that it has
abbrev pub entry_in : List NameId → List Numbered → Row → Entry
entry_in names texts row =
    record {
      key = bytes_in (get_or texts row.begin no_text).text;
      entry_type = bytes_in (get_or texts (suc row.begin) no_text).text;
      fields = fields_from 0 names (take row.count (drop (suc (suc row.begin)) texts));
    }

-- the entries with these rows
abbrev pub entries_in : List NameId → List Numbered → List Row → List Entry
entries_in names texts rows = map (entry_in names texts) rows

-- a row ends where the texts end, or before
abbrev pub IsWithin : List Numbered → Row → Type 0
IsWithin texts row = suc (suc (row.begin + row.count)) ≤ length texts

-- all of these rows end where the texts end, or before
abbrev pub AreWithin : List Numbered → List Row → Type 0
AreWithin texts rows = AllByRecursion (IsWithin texts) rows

-- what is read where no entry stands
abbrev pub no_row : Row
no_row = record { begin = 0; count = 0 }

-- the values that an entry with so many fields has
abbrev pub values_of : ℕ → List (Option (List ℕ)) → List Numbered
values_of fields values = under_places 0 (take fields values)

-- the texts of an entry with so many fields
abbrev pub texts_of : ℕ → List ℕ → List ℕ → List (Option (List ℕ)) → List Numbered
texts_of fields key entry_type values =
    record { number = 0; text = Some key } ∷ record { number = 0; text = Some entry_type } ∷ values_of fields values
