-- Entries whose texts stand one after the other.
use Rattle.std.proofs.Common.{◌≡◌, ℕ, zero, suc, ◌+◌, ◌<◌, arith, le_refl, refl, sym, ap, ◌∙◌, List, [], ◌∷◌, ◌++◌, Option, Some, drop, get_or, length, map, slice_get, take}
use Rattle.std.proofs.Math.ListN.{get_or-append}
use Rattle.std.proofs.lemmas.List.{drop-append-le, get_or-map, length-drop, length-map, take-append-le, take_all}
use Rattle.std.specs.Option.{option_map}
use Rattle.name_table.specs.declared.names.NameId.{NameId}
use Rattle.bst_meaning.specs.EntryLists.{Entry}
use Rattle.bst_meaning.specs.FieldValues.{FieldValue}
use Rattle.entry_store.specs.NumberedTexts.{Numbered, no_text, text_under}
use Rattle.entry_store.specs.PackedEntries.{Alike, AreWithin, IsWithin, bytes_in, entries_in, entry_in, fields_from, no_row, nothing, texts_of, values_of, with_entry}
use Rattle.entry_store.specs.declared.row.Row.{Row}
use Rattle.entry_store.proofs.Naming.{at, field_at, named_from, names_are}

abbrev seen_in : List NameId → List Numbered → List Row → Alike
seen_in names texts rows = record { names = names; entries = entries_in names texts rows }

-- an entry with this text as its key, this one as its type, and these fields
abbrev entry_of : Numbered → Numbered → List FieldValue → Entry
entry_of key entry_type fields = record { key = bytes_in key.text; entry_type = bytes_in entry_type.text; fields = fields }

-- where the entry with these values begins behind these texts
abbrev pub row_of : List Numbered → List Numbered → Row
row_of texts values = record { begin = length texts; count = length values }

-- there are as many entries as rows
pub count_is : (names : List NameId) (texts : List Numbered) (rows : List Row) (seen : Alike)
    → seen_in names texts rows ≡ seen → length seen.entries ≡ length rows
count_is names texts rows seen view =
    let many : length (entries_in names texts rows) ≡ length seen.entries = ap (λ (a : Alike). length a.entries) view in
    sym many ∙ length-map rows (entry_in names texts)

-- the entry at a place of what is seen is that of its row
pub entry_seen : (names : List NameId) (texts : List Numbered) (rows : List Row) (seen : Alike) (i : ℕ) (row : Row)
    → seen_in names texts rows ≡ seen → i < length seen.entries → row ≡ get_or rows i no_row
    → entry_in names texts row ≡ get_or seen.entries i nothing
entry_seen names texts rows seen i row view within is =
    ap (λ (r : Row). entry_in names texts r) is
    ∙ sym (get_or-map (entry_in names texts) rows i no_row nothing (omega (arith, within, count_is names texts rows seen view)))
    ∙ ap (λ (a : Alike). get_or a.entries i nothing) view

-- a field of an entry
pub field_seen : (names read : List NameId) (texts : List Numbered) (rows : List Row) (seen : Alike) (i f : ℕ) (row : Row) (o : Option NameId) (value : Option (List ℕ))
    → seen_in names texts rows ≡ seen → i < length seen.entries → row ≡ get_or rows i no_row → read ≡ names → slice_get read f ≡ o
    → value ≡ text_under f (take row.count (drop (row.begin + 2) texts))
    → option_map (λ name. at name value) o ≡ slice_get (get_or seen.entries i nothing).fields f
field_seen names read texts rows seen i f row o value view within is same here there =
    let behind : row.begin + 2 ≡ suc (suc row.begin) = omega arith in
    let own : List Numbered = take row.count (drop (suc (suc row.begin)) texts) in
    let first : f ≡ zero + f = omega arith in
    ap (λ (v : Option (List ℕ)). option_map (λ name. at name v) o)
    (there ∙ ap (λ (n : ℕ). text_under f (take row.count (drop n texts))) behind)
    ∙ ap (λ (p : Option NameId). option_map (λ name. at name (text_under f own)) p) (sym here ∙ ap (λ (l : List NameId). slice_get l f) same)
    ∙ ap (λ (n : ℕ). option_map (λ name. at name (text_under n own)) (slice_get names f)) first
    ∙ sym (field_at 0 names own f)
    ∙ ap (λ (e : Entry). slice_get e.fields f) (entry_seen names texts rows seen i row view within is)

-- the names of an entry's fields
pub names_seen : (names : List NameId) (texts : List Numbered) (rows : List Row) (seen : Alike) (i : ℕ)
    → seen_in names texts rows ≡ seen → i < length seen.entries → names ≡ map (λ f. f.name) (get_or seen.entries i nothing).fields
names_seen names texts rows seen i view within =
    let row : Row = get_or rows i no_row in
    sym (names_are 0 names (take row.count (drop (suc (suc row.begin)) texts)))
    ∙ ap (λ (e : Entry). map (λ (f : FieldValue). f.name) e.fields) (entry_seen names texts rows seen i row view within refl)

-- what is put behind an entry leaves it
stays : (names : List NameId) (texts more : List Numbered) (row : Row) → IsWithin texts row
    → entry_in names (texts ++ more) row ≡ entry_in names texts row
stays names texts more row within =
    let all : List Numbered = texts ++ more in
    let behind : ℕ = suc (suc row.begin) in
    ap (λ (k : Numbered). entry_of k (get_or all (suc row.begin) no_text) (fields_from 0 names (take row.count (drop behind all))))
    (get_or-append texts more no_text row.begin (omega (arith, within)))
    ∙ ap (λ (t : Numbered). entry_of (get_or texts row.begin no_text) t (fields_from 0 names (take row.count (drop behind all))))
    (get_or-append texts more no_text (suc row.begin) (omega (arith, within)))
    ∙ ap (λ (l : List Numbered). entry_of (get_or texts row.begin no_text) (get_or texts (suc row.begin) no_text) (fields_from 0 names l))
    (ap (λ (l : List Numbered). take row.count l) (drop-append-le behind texts more (omega (arith, within)))
    ∙ take-append-le row.count (drop behind texts) more (omega (arith, within, length-drop behind texts)))

-- an entry that is put behind others has what it was made of
is_put : (names : List NameId) (texts : List Numbered) (key entry_type : List ℕ) (values : List (Option (List ℕ)))
    → entry_in names (texts ++ texts_of (length names) key entry_type values) (row_of texts (values_of (length names) values))
    ≡ record { key = key; entry_type = entry_type; fields = fields_from 0 names (values_of (length names) values) }
is_put names texts key entry_type values =
    let own : List Numbered = values_of (length names) values in
    let k : Numbered = record { number = 0; text = Some key } in
    let t : Numbered = record { number = 0; text = Some entry_type } in
    let all : List Numbered = texts ++ k ∷ t ∷ own in
    let n : ℕ = length texts in
    let fields : List FieldValue = fields_from 0 names (take (length own) (drop (suc (suc n)) all)) in
    ap (λ (x : Numbered). entry_of x (get_or all (suc n) no_text) fields) (first texts k t own)
    ∙ ap (λ (x : Numbered). entry_of k x fields) (second texts k t own)
    ∙ ap (λ (l : List Numbered). entry_of k t (fields_from 0 names (take (length own) l))) (others texts k t own)
    ∙ ap (λ (l : List Numbered). entry_of k t (fields_from 0 names l)) (take_all (length own) own (le_refl (length own)))
  where
    first : (texts : List Numbered) (k t : Numbered) (own : List Numbered) → get_or (texts ++ k ∷ t ∷ own) (length texts) no_text ≡ k
    first [] k t own = refl
    first (x ∷ texts) k t own = first texts k t own

    second : (texts : List Numbered) (k t : Numbered) (own : List Numbered) → get_or (texts ++ k ∷ t ∷ own) (suc (length texts)) no_text ≡ t
    second [] k t own = refl
    second (x ∷ texts) k t own = second texts k t own

    others : (texts : List Numbered) (k t : Numbered) (own : List Numbered) → drop (suc (suc (length texts))) (texts ++ k ∷ t ∷ own) ≡ own
    others [] k t own = refl
    others (x ∷ texts) k t own = others texts k t own

-- an entry behind the others, which stay
one_more : (names : List NameId) (texts : List Numbered) (rows : List Row) (key entry_type : List ℕ) (values : List (Option (List ℕ)))
    → AreWithin texts rows
    → entries_in names (texts ++ texts_of (length names) key entry_type values) (rows ++ row_of texts (values_of (length names) values) ∷ [])
    ≡ entries_in names texts rows ++ record { key = key; entry_type = entry_type; fields = fields_from 0 names (values_of (length names) values) } ∷ []
one_more names texts [] key entry_type values are =
    ap (λ (e : Entry). e ∷ []) (is_put names texts key entry_type values)
one_more names texts (row ∷ rows) key entry_type values are =
    let own : List Numbered = values_of (length names) values in
    let all : List Numbered = texts ++ texts_of (length names) key entry_type values in
    ap (λ (e : Entry). e ∷ entries_in names all (rows ++ row_of texts own ∷ [])) (stays names texts (texts_of (length names) key entry_type values) row are.0)
    ∙ ap (λ (l : List Entry). entry_in names texts row ∷ l) (one_more names texts rows key entry_type values are.1)

pub pushed : (names : List NameId) (texts later : List Numbered) (rows rowed : List Row) (fields : ℕ) (key entry_type : List ℕ) (values : List (Option (List ℕ))) (seen : Alike)
    → seen_in names texts rows ≡ seen → AreWithin texts rows → fields ≡ length names
    → later ≡ texts ++ texts_of fields key entry_type values → rowed ≡ rows ++ row_of texts (values_of fields values) ∷ []
    → seen_in names later rowed ≡ with_entry key entry_type values seen
pushed names texts later rows rowed fields key entry_type values seen view are many is here =
    ap (λ (l : List Numbered). seen_in names l rowed) (is ∙ ap (λ (n : ℕ). texts ++ texts_of n key entry_type values) many)
    ∙ ap (λ (l : List Row). seen_in names (texts ++ texts_of (length names) key entry_type values) l)
    (here ∙ ap (λ (n : ℕ). rows ++ row_of texts (values_of n values) ∷ []) many)
    ∙ ap (λ (l : List Entry). let a : Alike = record { names = names; entries = l } in a)
    (one_more names texts rows key entry_type values are
    ∙ ap (λ (l : List FieldValue). let e : Entry = record { key = key; entry_type = entry_type; fields = l } in entries_in names texts rows ++ e ∷ [])
    (named_from 0 names values))
    ∙ ap (λ (a : Alike). with_entry key entry_type values a) view
