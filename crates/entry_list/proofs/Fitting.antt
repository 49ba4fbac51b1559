-- What joining gives is the joined list, and fits the style.
use Rattle.std.proofs.Common.{◌≡◌, ℕ, List, [], ◌∷◌, ◌++◌, Option, Bool, map, refl, sym, ap, ◌∙◌, subst}
use Rattle.std.specs.List.{AllByRecursion}
use Rattle.name_table.specs.declared.style.Style.{Style}
use Rattle.aux_read.specs.declared.aux.AuxItem.{AuxItem}
use Rattle.bib_read.specs.declared.database.Database.{Database}
use Rattle.bib_read.specs.Additions.{AreKeyed}
use Rattle.bib_read.specs.RawEntries.{RawEntry}
use Rattle.bst_meaning.specs.Entries.{EntryFits, Fits, IsByteList}
use Rattle.bst_meaning.specs.EntryLists.{Entry}
use Rattle.entry_list.specs.declared.joined.Joined.{Joined}
use Rattle.entry_list.specs.Bytes.{HaveBytes}
use Rattle.entry_list.specs.Citing.{cited_list, no_entries}
use Rattle.entry_list.specs.Fields.{Declared, declared_fields, entry_with, is_parent_listed, joined_entry, values_of, without_parents}
use Rattle.entry_list.specs.Joining.{all_joined, all_warnings, joined}
use Rattle.entry_list.specs.Keys.{AreCitations, Listed}
use Rattle.entry_list.specs.Parents.{appended, parent_of, whole_list}
use Rattle.entry_list.specs.Tables.{TellsParent, entry_by}
use Rattle.entry_list.proofs.Declaring.{declared_ids}
use Rattle.entry_list.proofs.Keyed.{IsKeyed, whole_keyed}

abbrev one : List Entry → List ℕ → List (List ℕ) → Joined
one entries preamble warnings = record { list = record { entries = entries; preamble = preamble }; warnings = warnings }

-- the cited entries and the parents that are appended to them
pub whole_is : (items : List AuxItem) (table : List RawEntry) (cited list : List Listed) → cited ≡ cited_list items table
    → list ≡ cited ++ appended table cited → list ≡ whole_list items table
whole_is items table cited list same is = is ∙ ap (λ l. l ++ appended table l) same

-- the warnings of the citations, and those of the parents of a list
pub warnings_are : (items : List AuxItem) (table : List RawEntry) (list : List Listed) (cited warnings : List (List ℕ))
    → list ≡ whole_list items table → cited ≡ no_entries items table
    → warnings ≡ cited ++ without_parents table list → warnings ≡ all_warnings items table
warnings_are items table list cited warnings whole same are =
    are
    ∙ ap (λ w. w ++ without_parents table list) same
    ∙ ap (λ l. no_entries items table ++ without_parents table l) whole

-- the entries that are joined over the table of the databases' entries are those over the databases
pub entries_are : (style : Style) (items : List AuxItem) (table raw : List RawEntry) (list : List Listed) (entries : List Entry)
    → table ≡ raw → list ≡ whole_list items table → entries ≡ all_joined style table list
    → entries ≡ all_joined style raw (whole_list items raw)
entries_are style items table raw list entries same whole are =
    are
    ∙ ap (all_joined style table) whole
    ∙ ap (λ r. all_joined style r (whole_list items r)) same

pub joined_is : (style : Style) (items : List AuxItem) (database : Database) (table : List RawEntry) (entries : List Entry)
    (preamble : List ℕ) (warnings : List (List ℕ)) → table ≡ database.entries
    → entries ≡ all_joined style database.entries (whole_list items database.entries)
    → preamble ≡ database.preamble → warnings ≡ all_warnings items table
    → one entries preamble warnings ≡ joined style items database
joined_is style items database table entries preamble warnings same are pre warned =
    let all = all_joined style database.entries (whole_list items database.entries) in
    ap (λ e. one e preamble warnings) are
    ∙ ap (λ p. one all p warnings) pre
    ∙ ap (λ w. one all database.preamble w) (warned ∙ ap (all_warnings items) same)

pub entry_same : (keys : List (List ℕ)) (list : List Listed) (fields : List Declared) (raw : List RawEntry) (listed : Listed)
    → TellsParent keys raw list listed
    → entry_by keys fields raw listed ≡ joined_entry fields raw list listed
entry_same keys list fields raw listed told = ap (entry_with fields listed (parent_of raw listed.entry)) told

names_are : (fields : List Declared) (entry : RawEntry) (parent : Option RawEntry) (keeps : Bool)
    → map (λ f. f.name) (values_of fields entry parent keeps) ≡ map (λ d. d.id) fields
names_are [] entry parent keeps = refl
names_are (field ∷ fields) entry parent keeps = ap (λ l. field.id ∷ l) (names_are fields entry parent keeps)

entries_fit : (style : Style) (raw : List RawEntry) (whole list : List Listed) → AllByRecursion IsKeyed list
    → HaveBytes (map (joined_entry (declared_fields style) raw whole) list)
    → AllByRecursion (EntryFits style) (map (joined_entry (declared_fields style) raw whole) list)
entries_fit style raw whole [] keyed bytes = tt
entries_fit style raw whole (listed ∷ list) keyed bytes =
    let parent = parent_of raw listed.entry in (
      record {
        key = keyed.0;
        key_bytes = bytes.0.key;
        type_bytes = bytes.0.entry_type;
        fields = names_are (declared_fields style) listed.entry parent (is_parent_listed whole parent) ∙ declared_ids 0 style.names;
        field_bytes = bytes.0.fields;
      },
      entries_fit style raw whole list keyed.1 bytes.1,
    )

pub list_fits : (style : Style) (items : List AuxItem) (raw : List RawEntry) (entries : List Entry) (preamble : List ℕ)
    → AreCitations items → AreKeyed raw
    → entries ≡ all_joined style raw (whole_list items raw)
    → HaveBytes entries → IsByteList preamble
    → Fits style (record { entries = entries; preamble = preamble })
list_fits style items raw entries preamble cited keyed are bytes pre =
    record {
      entries = subst (AllByRecursion (EntryFits style)) (sym are)
          (entries_fit style raw (whole_list items raw) (whole_list items raw) (whole_keyed items raw cited keyed)
          (subst (HaveBytes) are bytes));
      preamble_bytes = pre;
    }
