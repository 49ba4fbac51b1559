-- The fields of an entry, whose values stand with those of the other entries.
use Rattle.std.proofs.Common.{◌≡◌, ℕ, Bool, List, [], ◌∷◌, Option, map, refl, ap, subst, ◌∙◌}
use Rattle.std.specs.List.{AllByRecursion}
use Rattle.std.specs.Option.{ForSome}
use Rattle.name_table.specs.declared.names.NameId.{NameId}
use Rattle.bib_read.specs.RawEntries.{RawEntry}
use Rattle.bst_meaning.specs.Entries.{IsByteList}
use Rattle.bst_meaning.specs.EntryLists.{Entry}
use Rattle.bst_meaning.specs.FieldValues.{FieldValue}
use Rattle.entry_store.specs.PackedEntries.{Alike, named, with_entry, with_one}
use Rattle.entry_list.specs.Bytes.{AreByteTexts, HasBytes}
use Rattle.entry_list.specs.Fields.{Declared, entry_with, value_of, values_of}
use Rattle.entry_list.specs.Keys.{Listed}
use Rattle.entry_list.specs.Parents.{parent_of}
use Rattle.entry_list.specs.Tables.{entry_by, has_parent}

-- names and values beside each other are fields
values_named : (fields : List Declared) (entry : RawEntry) (parent : Option RawEntry) (keeps : Bool)
    → named (map (λ d. d.id) fields) (map (λ d. value_of entry parent keeps d.name) fields) ≡ values_of fields entry parent keeps
values_named [] entry parent keeps = refl
values_named (field ∷ fields) entry parent keeps =
    ap (λ (l : List FieldValue). record { name = field.id; value = value_of entry parent keeps field.name } ∷ l)
    (values_named fields entry parent keeps)

-- fields whose values are bytes
named_bytes : (names : List NameId) (values : List (Option (List ℕ))) → AreByteTexts values
    → AllByRecursion (λ f. ForSome f.value IsByteList) (named names values)
named_bytes [] values bytes = tt
named_bytes (name ∷ names) [] bytes = (λ text is. absurd (cc), named_bytes names [] tt)
named_bytes (name ∷ names) (value ∷ values) bytes = (bytes.0, named_bytes names values bytes.1)

-- an entry by its parent is the entry of which keys say whether its parent is in the list
pub told_entry : (keys : List (List ℕ)) (fields : List Declared) (raw : List RawEntry) (listed : Listed) (entry : RawEntry)
    (found asked lent : Option RawEntry) (keeps : Bool) → entry ≡ listed.entry → found ≡ parent_of raw entry
    → asked ≡ found → keeps ≡ has_parent keys asked → lent ≡ found
    → entry_with fields listed lent keeps ≡ entry_by keys fields raw listed
told_entry keys fields raw listed entry found asked lent keeps own is same told other =
    let parent : found ≡ parent_of raw listed.entry = is ∙ ap (λ (e : RawEntry). parent_of raw e) own in
    ap (λ (o : Option RawEntry). entry_with fields listed o keeps) (other ∙ parent)
    ∙ ap (λ (b : Bool). entry_with fields listed (parent_of raw listed.entry) b)
    (told ∙ ap (λ (o : Option RawEntry). has_parent keys o) (same ∙ parent))

-- what is appended is the entry, and is bytes
module _ (fields : List Declared) (listed : Listed) (parent : Option RawEntry) (keeps : Bool) (key entry_type : List ℕ)
    (values : List (Option (List ℕ))) (key_is : key ≡ listed.key) (type_is : entry_type ≡ listed.entry.entry_type)
    (values_are : values ≡ map (λ d. value_of listed.entry parent keeps d.name) fields) where
  pub appended : (old new : Alike) → old.names ≡ map (λ d. d.id) fields → new ≡ with_entry key entry_type values old
      → new ≡ with_one (entry_with fields listed parent keeps) old
  appended old new names is =
      is
      ∙ ap (λ (k : List ℕ). with_entry k entry_type values old) key_is
      ∙ ap (λ (t : List ℕ). with_entry listed.key t values old) type_is
      ∙ ap (λ (l : List FieldValue).
      let e : Entry = record { key = listed.key; entry_type = listed.entry.entry_type; fields = l } in with_one e old)
      (ap (λ (v : List (Option (List ℕ))). named old.names v) values_are
      ∙ ap (λ (n : List NameId). named n (map (λ (d : Declared). value_of listed.entry parent keeps d.name) fields)) names
      ∙ values_named fields listed.entry parent keeps)

  pub appended_bytes : IsByteList key → IsByteList entry_type → AreByteTexts values → HasBytes (entry_with fields listed parent keeps)
  appended_bytes in_key in_type in_values = record {
    key = subst IsByteList key_is in_key;
    entry_type = subst IsByteList type_is in_type;
    fields = subst (AllByRecursion (λ f. ForSome f.value IsByteList)) (values_named fields listed.entry parent keeps)
        (named_bytes (map (λ (d : Declared). d.id) fields) (map (λ (d : Declared). value_of listed.entry parent keeps d.name) fields)
        (subst AreByteTexts values_are in_values));
  }
