-- What was read stays, and what a text adds comes after it.
use Rattle.std.proofs.Common.{◌≡◌, ℕ, zero, suc, Bool, true, false, cond, not, ◌||◌, ◌&&◌, nat_eq, List, [], ◌∷◌, ◌++◌, length, drop, take, Option, None, Some, Result, Ok, Err, codes, refl, sym, ap, ◌∙◌, append_assoc, append-nil, subst}
use Rattle.std.specs.List.{list_all}
use Rattle.bv_base.specs.Bytes.{is_white as white}
use Rattle.bv_base.specs.Keys.{IsKey}
use Rattle.bv_base.specs.Runs.{after_white, length_before}
use Rattle.name_table.specs.Names.{lowered, same_name}
use Rattle.name_table.specs.declared.style.Macro.{Macro}
use Rattle.bib_read.specs.declared.database.Database.{Database}
use Rattle.bib_read.specs.RawEntries.{RawEntry}
use Rattle.bib_read.specs.declared.stop.Stop.{Stop}
use Rattle.bib_read.specs.declared.stop.Stop.TheVariants.{RepeatedKey}
use Rattle.bib_read.specs.Additions.{AreKeyed, AreNew, HasAdded, HasDefined, HasGrown, IsLonger}
use Rattle.bib_read.specs.Entering.{entry_at, take_entry, take_fields, with_entry}
use Rattle.bib_read.specs.Names.{all_defined, defined, has_entry}
use Rattle.bib_read.specs.Parts.{take_identifier, take_mark, take_opening}
use Rattle.bib_read.specs.Progress.{Progress}
use Rattle.bib_read.specs.Reading.{database, database_of, finished, next_item, start, take_definition, take_item, take_items, take_opened, take_preamble, take_string, with_definition, with_preamble}
use Rattle.bib_read.specs.Runs.{after_at, ends_key}
use Rattle.bib_read.specs.Squeeze.{squeezed}
use Rattle.bib_read.specs.Stops.{unexpected}
use Rattle.bib_read.specs.Values.{take_equals, take_value}
use Rattle.bib_read.proofs.Kept.{Any, Same, equals_kept, fields_kept, identifier_kept, mark_kept, opening_kept, value_kept, SameAfter}
use Rattle.bv_base.proofs.ThenLemmas.{then_holds}
use Rattle.std.proofs.lemmas.Bool.{cond_both}
use Rattle.std.specs.Prelude.{IfOk}

-- what was read stays, and what is added comes after it
abbrev pub Grown : Progress → Progress → Type 0
Grown s q =
    HasDefined s.macros q.macros × HasAdded s.entries q.entries × IsLonger s.preamble q.preamble
    × IsLonger s.warnings q.warnings

abbrev Grew : Progress → Result Progress Stop → Type 0
Grew s r = IfOk r (Grown s)

none_added : (s q : Progress) → Same s q → Grown s q
none_added s q same =
    (([], same.0), ([], same.1 ∙ sym (append-nil s.entries), tt), ([], same.2 ∙ sym (append-nil s.preamble)), same.3)

longer_on : {X : Type 0} (a b c : List X) → IsLonger a b → IsLonger b c → IsLonger a c
longer_on a b c x y = (x.0 ++ y.0, y.1 ∙ ap (λ l. l ++ y.0) x.1 ∙ append_assoc a x.0 y.0)

all_defined_on : (a b macros : List Macro) → all_defined (a ++ b) macros ≡ all_defined b (all_defined a macros)
all_defined_on [] b macros = refl
all_defined_on (m ∷ a) b macros = all_defined_on a b (defined m.name m.value macros)

new_on : (before a b : List RawEntry) → AreNew before a → AreNew (before ++ a) b → AreNew before (a ++ b)
new_on before [] b x y = subst (λ l. AreNew l b) (append-nil before) y
new_on before (e ∷ a) b x y =
    (x.0, x.1, new_on (before ++ e ∷ []) a b x.2 (subst (λ l. AreNew l b) (sym (append_assoc before (e ∷ []) a)) y))

grown_on : (s p q : Progress) → Grown s p → Grown p q → Grown s q
grown_on s p q x y = (
  (x.0.0 ++ y.0.0, y.0.1 ∙ ap (all_defined y.0.0) x.0.1 ∙ sym (all_defined_on x.0.0 y.0.0 s.macros)),
  (
    x.1.0 ++ y.1.0,
    y.1.1 ∙ ap (λ l. l ++ y.1.0) x.1.1 ∙ append_assoc s.entries x.1.0 y.1.0,
    new_on s.entries x.1.0 y.1.0 x.1.2 (subst (λ l. AreNew l y.1.0) x.1.1 y.1.2),
  ),
  longer_on s.preamble p.preamble q.preamble x.2 y.2,
  longer_on s.warnings p.warnings q.warnings x.3 y.3,
)

-- a byte that doesn't end a key is no white space
no_white : (close b : ℕ) → ends_key close b ≡ false → white b ≡ false
no_white close b fails = by (white b) fails
  where
    by : (w : Bool) → (w || (nat_eq b 44 || (nat_eq b 125 && nat_eq close 125))) ≡ false → w ≡ false
    by true e = absurd cc
    by false e = refl

all_black : (close : ℕ) (bytes : List ℕ)
    → list_all (λ c. not (white c)) (take (length_before (ends_key close) bytes) bytes) ≡ true
all_black close [] = refl
all_black close (b ∷ bytes) = by (ends_key close b) refl (all_black close bytes)
  where
    by : (v : Bool) → ends_key close b ≡ v
        → list_all (λ c. not (white c)) (take (length_before (ends_key close) bytes) bytes) ≡ true
        → list_all (λ c. not (white c)) (take (cond v 0 (suc (length_before (ends_key close) bytes))) (b ∷ bytes)) ≡ true
    by true is rest = refl
    by false is rest =
        ap (λ v. not v && list_all (λ c. not (white c)) (take (length_before (ends_key close) bytes) bytes)) (no_white close b is)
        ∙ rest

front_key : (close : ℕ) (bytes : List ℕ) → nat_eq (length_before (ends_key close) bytes) 0 ≡ false
    → IsKey (take (length_before (ends_key close) bytes) bytes)
front_key close [] some = absurd cc
front_key close (b ∷ bytes) some = by (ends_key close b) refl some
  where
    by : (v : Bool) → ends_key close b ≡ v → nat_eq (cond v 0 (suc (length_before (ends_key close) bytes))) 0 ≡ false
        → IsKey (take (cond v 0 (suc (length_before (ends_key close) bytes))) (b ∷ bytes))
    by true is some = absurd cc
    by false is some =
        ap (λ v. not v && list_all (λ c. not (white c)) (take (length_before (ends_key close) bytes) bytes)) (no_white close b is)
        ∙ all_black close bytes

one_added : (s q : Progress) (key entry_type : List ℕ) → Same s q → IsKey key → has_entry (lowered key) s.entries ≡ false
    → Grown s (with_entry key entry_type q)
one_added s q key entry_type same is absent =
    let entry : RawEntry = record { key = key; entry_type = entry_type; fields = q.fields } in (
      ([], same.0),
      (entry ∷ [], ap (λ l. l ++ entry ∷ []) same.1, (is, absent, tt)),
      ([], same.2 ∙ sym (append-nil s.preamble)),
      same.3,
    )

entry_at_grew : (s : Progress) (close : ℕ) (entry_type bytes : List ℕ) (p : Progress) → Same s p
    → Grew s (entry_at close entry_type bytes p)
entry_at_grew s close entry_type bytes p same =
    let left : List ℕ = drop (length_before (ends_key close) bytes) bytes in
    let key : List ℕ = take (length_before (ends_key close) bytes) bytes in
    let begun : Progress = record p { left = left; fields = [] } in
    cond_both (nat_eq (length_before (ends_key close) bytes) 0) (Err (unexpected bytes)) _ (Grew s) (λ holds. tt)
    (λ some. cond_both (has_entry (lowered key) p.entries) (Err (RepeatedKey (length bytes))) _ (Grew s) (λ holds. tt)
    (λ absent. then_holds (Same s) (Grown s) (take_fields (length left) close key begun) (λ q. Ok (with_entry key entry_type q))
    (fields_kept (length left) s close key begun same)
    (λ q kept. one_added s q key entry_type kept (front_key close bytes some)
    (ap (has_entry (lowered key)) (sym same.1) ∙ absent))))

definition_grew : (s : Progress) (close : ℕ) (name : List ℕ) (p : Progress) → Same s p → Grew s (take_definition close name p)
definition_grew s close name p same =
    then_holds (Same s) (Grown s) (take_equals p) _ (equals_kept Any s p same)
    (λ q kept. then_holds (Same s) (Grown s) (take_mark close q) (λ r. Ok (with_definition name r)) (mark_kept Any s close q kept)
    (λ r more. (
      (record { name = name; value = squeezed false r.text } ∷ [], ap (defined name (squeezed false r.text)) more.0),
      ([], more.1 ∙ sym (append-nil s.entries), tt),
      ([], more.2 ∙ sym (append-nil s.preamble)),
      more.3,
    )))

preamble_grew : (s : Progress) (close : ℕ) (p : Progress) → Same s p → Grew s (take_preamble close p)
preamble_grew s close p same =
    then_holds (Same s) (Grown s) (take_value p) _ (value_kept Any s p same)
    (λ q kept. then_holds (Same s) (Grown s) (take_mark close q) (λ r. Ok (with_preamble r)) (mark_kept Any s close q kept)
    (λ r more. (
      ([], more.0),
      ([], more.1 ∙ sym (append-nil s.entries), tt),
      (squeezed false r.text, ap (λ l. l ++ squeezed false r.text) more.2),
      more.3,
    )))

opened_grew : (s : Progress) (word : List ℕ) (close : ℕ) (p : Progress) → Same s p → Grew s (take_opened word close p)
opened_grew s word close p same =
    cond_both (same_name word (codes "string")) (take_string close p) _ (Grew s)
    (λ holds. then_holds (SameAfter Any s) (Grown s) (take_identifier p) (λ found. take_definition close found.0 found.1) (identifier_kept Any s p same)
    (λ found kept. definition_grew s close found.0 found.1 kept))
    (λ fails. cond_both (same_name word (codes "preamble")) (take_preamble close p) (take_entry close word p) (Grew s)
    (λ holds. preamble_grew s close p same) (λ fails2. entry_at_grew s close word (after_white p.left) p same))

item_grew : (s p : Progress) → Same s p → Grew s (take_item p)
item_grew s p same =
    then_holds (SameAfter Any s) (Grown s) (take_identifier p) _ (identifier_kept Any s p same)
    (λ found kept. cond_both (same_name found.0 (codes "comment")) (Ok found.1) _ (Grew s) (λ holds. none_added s found.1 kept)
    (λ fails. then_holds (SameAfter Any s) (Grown s) (take_opening found.1) (λ opened. take_opened found.0 opened.0 opened.1)
    (opening_kept Any s found.1 kept) (λ opened more. opened_grew s found.0 opened.0 opened.1 more)))

-- nothing has changed
unchanged : (p : Progress) → Same p p
unchanged p = (refl, refl, refl, ([], sym (append-nil p.warnings)), tt)

grew_on : (s p : Progress) (r : Result Progress Stop) → Grown s p → Grew p r → Grew s r
grew_on s p (Ok q) x y = grown_on s p q x y
grew_on s p (Err stop) x y = tt

next_grew : (s p : Progress) (next : Progress → Result Progress Stop) (o : Option (List ℕ)) → Grown s p
    → ((q : Progress) → Grown s q → Grew s (next q)) → Grew s (next_item o p next)
next_grew s p next None grown each = grown
next_grew s p next (Some left) grown each =
    then_holds (Grown s) (Grown s) (take_item (record p { left = left })) next
    (grew_on s p (take_item (record p { left = left })) grown (item_grew p (record p { left = left }) (unchanged p))) each

items_grew : (n : ℕ) (s p : Progress) → Grown s p → Grew s (take_items n p)
items_grew zero s p grown = grown
items_grew (suc n) s p grown = next_grew s p (take_items n) (after_at p.left) grown (λ q more. items_grew n s q more)

-- what is read after a database is that database with what the text adds
pub grown_database : (source : List ℕ) (before after : Database) → database_of source before ≡ Ok after → HasGrown before after
grown_database source before after is =
    by (take_items (length source) (start source before)) is
    (items_grew (length source) (start source before) (start source before)
    (none_added (start source before) (start source before) (unchanged (start source before))))
  where
    by : (r : Result Progress Stop) → finished source r ≡ Ok after → Grew (start source before) r → HasGrown before after
    by (Ok q) e grown =
        let same : database q ≡ after = cc in
        subst (HasGrown before) same
        (record { macros = grown.0; entries = grown.1; preamble = grown.2; warnings = grown.3 })
    by (Err stop) e grown = absurd cc

keyed_on : (before more : List RawEntry) → AreNew before more → (entries : List RawEntry) → AreKeyed entries
    → AreKeyed (entries ++ more)
keyed_on before [] new entries keyed = subst AreKeyed (sym (append-nil entries)) keyed
keyed_on before (e ∷ more) new entries keyed =
    subst AreKeyed (append_assoc entries (e ∷ []) more)
    (keyed_on (before ++ e ∷ []) more new.2 (entries ++ e ∷ []) (pushed entries keyed))
  where
    pushed : (entries : List RawEntry) → AreKeyed entries → AreKeyed (entries ++ e ∷ [])
    pushed [] keyed = (new.0, tt)
    pushed (first ∷ entries) keyed = (keyed.0, pushed entries keyed.1)

-- where each entry that was read before has a key, each entry has one
pub keyed_database : (source : List ℕ) (before after : Database) → database_of source before ≡ Ok after
    → AreKeyed before.entries → AreKeyed after.entries
keyed_database source before after is keyed =
    let grown = grown_database source before after is in
    subst AreKeyed (sym grown.entries.1) (keyed_on before.entries grown.entries.0 grown.entries.2 before.entries keyed)

-- where no two entries that were read before have one key, no two entries have one
pub apart_database : (source : List ℕ) (before after : Database) → database_of source before ≡ Ok after
    → AreNew [] before.entries → AreNew [] after.entries
apart_database source before after is new =
    let grown = grown_database source before after is in
    subst (AreNew []) (sym grown.entries.1) (new_on [] before.entries grown.entries.0 new grown.entries.2)
