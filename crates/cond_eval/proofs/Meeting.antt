-- An entry list meets a condition exactly where no line is unmet.
use Rattle.std.proofs.Common.{◌≡◌, ℕ, zero, suc, ◌+◌, ◌≤◌, ◌<◌, Bool, true, false, cond, ◌&&◌, ◌||◌, not, nat_eq, nat_le, List, [], ◌∷◌, drop, length, slice_get, Option, None, Some, is_none, is_some, IsSome, refl, sym, ap, subst, ◌∙◌, arith, inl, inr}
use Rattle.std.specs.Cmp.Lexicographic.{bytes_decides, pointwise}
use Rattle.std.specs.List.{AllByRecursion, Contains, list_all}
use Rattle.std.specs.Option.{ForSome, option_map_or, option_or}
use Rattle.std.proofs.lemmas.Bool.Decides.{nat_tests}
use Rattle.std.proofs.lemmas.List.{drop_more}
use Rattle.std.proofs.lemmas.Option.{get_or_from_slice_get, slice_get_within}
use Rattle.std.proofs.lemmas.Map.Views.{Contains-from_any}
use Rattle.name_split.specs.AllParts.{names_ok}
use Rattle.name_split.specs.Names.{names_of}
use Rattle.bv_base.specs.KeySets.{has_key}
use Rattle.name_table.specs.TypeTarget.{type_function}
use Rattle.name_table.specs.declared.names.NameId.{NameId}
use Rattle.name_table.specs.declared.style.Style.{Style}
use Rattle.bst_meaning.specs.Condition.{EntryMeets, FieldHasNames, FieldIsNonblank, HasInk, Meets, TypeIsAdmitted}
use Rattle.bst_meaning.specs.declared.condition.Cond.{Cond}
use Rattle.bst_meaning.specs.declared.condition.NamesLine.{NamesLine}
use Rattle.bst_meaning.specs.EntryLists.{Entry, EntryList}
use Rattle.bst_meaning.specs.FieldValues.{FieldValue}
use Rattle.cond_eval.specs.Unmet.{entries_unmet, entry_unmet, first_of, first_unmet, has_ink, has_names, is_admitted, is_other, is_short, keeps_ink, keeps_names, kept_or, last_line, listed_unmet, type_unmet}
use Rattle.cond_eval.specs.declared.unmet.Unmet.{Unmet}

-- a test that decides a property, and the property of all elements that the test of all decides
pub record Decides {X : Type 0} (test : X → Bool) (P : X → Type 0) : Type 0 where
  pub holds : (x : X) → test x ≡ true → P x
  pub tested : (x : X) → P x → test x ≡ true

all_holds : {X : Type 0} (test : X → Bool) (P : X → Type 0) (xs : List X) → Decides test P → list_all test xs ≡ true → AllByRecursion P xs
all_holds test P [] d e = tt
all_holds {X} test P (x ∷ xs) d e =
    elim (test x) as (λ (t : Bool). test x ≡ t → (t && list_all test xs) ≡ true → P x × AllByRecursion P xs) [
      | true ↦ λ is rest. (d.holds x is, all_holds test P xs d rest)
      | false ↦ λ is rest. absurd (cc)
    ] refl e

all_tested : {X : Type 0} (test : X → Bool) (P : X → Type 0) (xs : List X) → Decides test P → AllByRecursion P xs → list_all test xs ≡ true
all_tested test P [] d all = refl
all_tested test P (x ∷ xs) d all = ap (λ (t : Bool). t && list_all test xs) (d.tested x all.0) ∙ all_tested test P xs d all.1

-- what stands at a place, with what is left behind it
drop_read : {X : Type 0} (xs : List X) (at : ℕ) (x : X) → slice_get xs at ≡ Some x → drop at xs ≡ x ∷ drop (at + 1) xs
drop_read xs at x here =
    drop_more xs at x (slice_get_within xs at x here) ∙ ap (λ y. y ∷ drop (at + 1) xs) (get_or_from_slice_get xs at x x here)

-- one element more passes
pub all_left : {X : Type 0} (test : X → Bool) (xs : List X) (at : ℕ) (x : X) → list_all test (drop at xs) ≡ list_all test xs
    → slice_get xs at ≡ Some x → test x ≡ true → list_all test (drop (at + 1) xs) ≡ list_all test xs
all_left test xs at x left here passed =
    ap (λ (t : Bool). t && list_all test (drop (at + 1) xs)) (sym passed)
    ∙ ap (λ l. list_all test l) (sym (drop_read xs at x here))
    ∙ left

-- one element doesn't
pub not_all : {X : Type 0} (test : X → Bool) (xs : List X) (at : ℕ) (x : X) → list_all test (drop at xs) ≡ list_all test xs
    → slice_get xs at ≡ Some x → test x ≡ false → false ≡ list_all test xs
not_all test xs at x left here failed =
    ap (λ (t : Bool). t && list_all test (drop (at + 1) xs)) (sym failed)
    ∙ ap (λ l. list_all test l) (sym (drop_read xs at x here))
    ∙ left

-- a bound on a length
bound_holds : (m n : ℕ) → nat_le m n ≡ true → m ≤ n
bound_holds m n e = grind (arith, nat_tests)

bound_tested : (m n : ℕ) → m ≤ n → nat_le m n ≡ true
bound_tested m n h = grind (arith, nat_tests)

-- where a test doesn't concern an element it passes
concerned : (t k : Bool) → (not t || k) ≡ true → t ≡ true → k ≡ true
concerned true k e is = e
concerned false k e is = absurd (cc)

passes : (t k : Bool) → (t ≡ true → k ≡ true) → (not t || k) ≡ true
passes true k by = by refl
passes false k by = refl

-- both of two tests
both : (a b : Bool) → (a && b) ≡ true → (a ≡ true) × (b ≡ true)
both true b e = (refl, e)
both false b e = absurd (cc)

-- a test on what is there
there_holds : {X : Type 0} (test : X → Bool) (P : X → Type 0) (d : Bool) (o : Option X) → Decides test P → option_map_or test o d ≡ true → ForSome o P
there_holds test P d None decides e = λ x is. absurd (cc)
there_holds {X} test P d (Some y) decides e = λ x is. let same : y ≡ x = cc in decides.holds x (subst (λ (z : X). test z ≡ true) same e)

there_tested : {X : Type 0} (test : X → Bool) (P : X → Type 0) (o : Option X) → Decides test P → ForSome o P → option_map_or test o true ≡ true
there_tested test P None decides all = refl
there_tested test P (Some y) decides all = decides.tested y (all y refl)

short_decides : (cond : Cond) → Decides (is_short cond) (λ field. ForSome field.value (λ bytes. length bytes ≤ cond.length))
short_decides admits = record {
  holds = λ field e. there_holds (λ bytes. nat_le (length bytes) admits.length) (λ bytes. length bytes ≤ admits.length) true field.value bound e;
  tested = λ field all. there_tested (λ bytes. nat_le (length bytes) admits.length) (λ bytes. length bytes ≤ admits.length) field.value bound all;
}
  where
    bound : Decides (λ (bytes : List ℕ). nat_le (length bytes) admits.length) (λ bytes. length bytes ≤ admits.length)
    bound = record { holds = λ bytes e. bound_holds (length bytes) admits.length e; tested = λ bytes h. bound_tested (length bytes) admits.length h }

names_decide : (line : NamesLine) → Decides (keeps_names line) (FieldHasNames line)
names_decide line = record {
  holds = λ field e concerns.
      there_holds (has_names line) Named true field.value named (concerned (nat_eq field.name.0 line.field.0) (option_map_or (has_names line) field.value true) e concerns);
  tested = λ field all. passes (nat_eq field.name.0 line.field.0) (option_map_or (has_names line) field.value true)
      (λ concerns. there_tested (has_names line) Named field.value named (all concerns));
}
  where
    Named : List ℕ → Type 0
    Named text = (length (names_of text) ≤ line.most) × (names_ok text ≡ true)

    named : Decides (has_names line) Named
    named = record {
      holds = λ text e. let parts = both (nat_le (length (names_of text)) line.most) (names_ok text) e in
          (bound_holds (length (names_of text)) line.most parts.0, parts.1);
      tested = λ text h. ap (λ (t : Bool). t && names_ok text) (bound_tested (length (names_of text)) line.most h.0) ∙ h.1;
    }

ink_decides : (name : NameId) → Decides (keeps_ink name) (FieldIsNonblank name)
ink_decides name = record {
  holds = λ field e concerns. by_value field.value (concerned (nat_eq field.name.0 name.0) (option_map_or has_ink field.value false) e concerns);
  tested = λ field all. passes (nat_eq field.name.0 name.0) (option_map_or has_ink field.value false) (λ concerns. of_value field.value (all concerns));
}
  where
    by_value : (o : Option (List ℕ)) → option_map_or has_ink o false ≡ true → IsSome o × ForSome o HasInk
    by_value None e = absurd (cc)
    by_value (Some bytes) e = (refl, λ x is. let same : bytes ≡ x = cc in subst (λ (b : List ℕ). has_ink b ≡ true) same e)

    of_value : (o : Option (List ℕ)) → IsSome o × ForSome o HasInk → option_map_or has_ink o false ≡ true
    of_value None h = absurd (none h.0)
      where
        none : is_some {T = List ℕ} None ≡ true → ⊥
        none e = cc
    of_value (Some bytes) h = h.1 bytes refl

-- a type that is listed
listed_holds : (type : List ℕ) (types : List (List ℕ)) → has_key type types ≡ true → Contains types type
listed_holds type types e = Contains-from_any (λ x y same. (bytes_decides x y).0 same) type types e

listed_tested : (type : List ℕ) (types : List (List ℕ)) → Contains types type → has_key type types ≡ true
listed_tested type [] h = absurd (none h.0 h.1)
  where
    none : (k : ℕ) → k < 0 → ⊥
    none k less = omega (arith, less)
listed_tested type (first ∷ types) (zero, less, is) =
    ap (λ (t : Bool). t || has_key type types) ((bytes_decides type first).1 (sym is))
listed_tested type (first ∷ types) (suc k, less, is) =
    ap (λ (t : Bool). pointwise nat_eq type first || t) (listed_tested type types (k, omega (arith, less), is)) ∙ or_true (pointwise nat_eq type first)
  where
    or_true : (t : Bool) → (t || true) ≡ true
    or_true true = refl
    or_true false = refl

type_holds : (style : Style) (admits : Cond) (type : List ℕ) → is_admitted style admits type ≡ true → TypeIsAdmitted style admits type
type_holds style admits type e =
    elim (has_key type admits.types) as (λ (t : Bool). has_key type admits.types ≡ t → (t || (is_other style type && admits.other)) ≡ true
    → TypeIsAdmitted style admits type) [
      | true ↦ λ is given. inl (listed_holds type admits.types is)
      | false ↦ λ is given. let parts = both (is_other style type) admits.other given in inr (none_there (type_function type style) parts.0, parts.1)
    ] refl e
  where
    none_there : (o : Option NameId) → is_none o ≡ true → o ≡ None
    none_there None e = refl
    none_there (Some id) e = absurd (cc)

type_tested : (style : Style) (admits : Cond) (type : List ℕ) → TypeIsAdmitted style admits type → is_admitted style admits type ≡ true
type_tested style admits type (inl listed) = ap (λ (t : Bool). t || (is_other style type && admits.other)) (listed_tested type admits.types listed)
type_tested style admits type (inr other) =
    ap (λ (t : Bool). has_key type admits.types || t)
    (ap (λ (o : Option NameId). is_none o && admits.other) other.0 ∙ other.1) ∙ or_true (has_key type admits.types)
  where
    or_true : (t : Bool) → (t || true) ≡ true
    or_true true = refl
    or_true false = refl

-- a line that is kept, and what comes next
kept_parts : (t : Bool) (line : ℕ) (next : Option ℕ) → kept_or t line next ≡ None → (t ≡ true) × (next ≡ None)
kept_parts true line next e = (refl, e)
kept_parts false line next e = absurd (cc)

kept_none : (t : Bool) (line : ℕ) (next : Option ℕ) → t ≡ true → next ≡ None → kept_or t line next ≡ None
kept_none true line next is e = e
kept_none false line next is e = absurd (cc)

neither : {X : Type 0} (a b : Option X) → option_or a b ≡ None → (a ≡ None) × (b ≡ None)
neither None b e = (refl, e)
neither (Some x) b e = absurd (cc)

either_none : {X : Type 0} (a b : Option X) → a ≡ None → b ≡ None → option_or a b ≡ None
either_none None b is e = e
either_none (Some x) b is e = absurd (cc)

-- lines of which none is unmet
lines_hold : {L : Type 0} (keeps : L → FieldValue → Bool) (P : L → FieldValue → Type 0) (fields : List FieldValue) (at : ℕ) (lines : List L)
    → ((line : L) → Decides (keeps line) (P line)) → first_of keeps fields at lines ≡ None → AllByRecursion (λ line. AllByRecursion (P line) fields) lines
lines_hold keeps P fields at [] d e = tt
lines_hold keeps P fields at (line ∷ lines) d e =
    let parts = kept_parts (list_all (keeps line) fields) at (first_of keeps fields (at + 1) lines) e in
    (all_holds (keeps line) (P line) fields (d line) parts.0, lines_hold keeps P fields (at + 1) lines d parts.1)

lines_kept : {L : Type 0} (keeps : L → FieldValue → Bool) (P : L → FieldValue → Type 0) (fields : List FieldValue) (at : ℕ) (lines : List L)
    → ((line : L) → Decides (keeps line) (P line)) → AllByRecursion (λ line. AllByRecursion (P line) fields) lines → first_of keeps fields at lines ≡ None
lines_kept keeps P fields at [] d all = refl
lines_kept keeps P fields at (line ∷ lines) d all =
    kept_none (list_all (keeps line) fields) at (first_of keeps fields (at + 1) lines) (all_tested (keeps line) (P line) fields (d line) all.0)
    (lines_kept keeps P fields (at + 1) lines d all.1)

-- one entry
entry_holds : (style : Style) (admits : Cond) (entry : Entry) → entry_unmet style admits entry ≡ None → EntryMeets style admits entry
entry_holds style admits entry e =
    let key = kept_parts (nat_le (length entry.key) admits.key) 1 _ e in
    let short = kept_parts (list_all (is_short admits) entry.fields) 3 (listed_unmet style admits entry) key.1 in
    let names = neither (first_of keeps_names entry.fields 4 admits.names) _ short.1 in
    let ink = neither (first_of keeps_ink entry.fields (4 + length admits.names) admits.nonblank) (type_unmet style admits entry) names.1 in
    let type = kept_parts (is_admitted style admits entry.entry_type) (last_line admits) None ink.1 in
    record {
      key = bound_holds (length entry.key) admits.key key.0;
      length = all_holds (is_short admits) (λ field. ForSome field.value (λ bytes. length bytes ≤ admits.length)) entry.fields (short_decides admits) short.0;
      names = lines_hold keeps_names FieldHasNames entry.fields 4 admits.names names_decide names.0;
      nonblank = lines_hold keeps_ink FieldIsNonblank entry.fields (4 + length admits.names) admits.nonblank ink_decides ink.0;
      types = type_holds style admits entry.entry_type type.0;
    }

entry_kept : (style : Style) (admits : Cond) (entry : Entry) → EntryMeets style admits entry → entry_unmet style admits entry ≡ None
entry_kept style admits entry meets =
    kept_none (nat_le (length entry.key) admits.key) 1 _ (bound_tested (length entry.key) admits.key meets.key)
    (kept_none (list_all (is_short admits) entry.fields) 3 (listed_unmet style admits entry)
    (all_tested (is_short admits) (λ field. ForSome field.value (λ bytes. length bytes ≤ admits.length)) entry.fields (short_decides admits) meets.length)
    (either_none (first_of keeps_names entry.fields 4 admits.names) _ (lines_kept keeps_names FieldHasNames entry.fields 4 admits.names names_decide meets.names)
    (either_none (first_of keeps_ink entry.fields (4 + length admits.names) admits.nonblank) (type_unmet style admits entry)
    (lines_kept keeps_ink FieldIsNonblank entry.fields (4 + length admits.names) admits.nonblank ink_decides meets.nonblank)
    (kept_none (is_admitted style admits entry.entry_type) (last_line admits) None (type_tested style admits entry.entry_type meets.types) refl))))

entries_hold : (style : Style) (admits : Cond) (at : ℕ) (entries : List Entry) → entries_unmet style admits at entries ≡ None
    → AllByRecursion (EntryMeets style admits) entries
entries_hold style admits at [] e = tt
entries_hold style admits at (entry ∷ entries) e =
    elim (entry_unmet style admits entry) as (λ (o : Option ℕ). entry_unmet style admits entry ≡ o
    → option_map_or (λ line. Some (let found : Unmet = record { entry = Some at; line = line } in found)) o (entries_unmet style admits (at + 1) entries) ≡ None
    → EntryMeets style admits entry × AllByRecursion (EntryMeets style admits) entries) [
      | None ↦ λ is rest. (entry_holds style admits entry is, entries_hold style admits (at + 1) entries rest)
      | Some line ↦ λ is rest. absurd (cc)
    ] refl e

entries_kept : (style : Style) (admits : Cond) (at : ℕ) (entries : List Entry) → AllByRecursion (EntryMeets style admits) entries
    → entries_unmet style admits at entries ≡ None
entries_kept style admits at [] all = refl
entries_kept style admits at (entry ∷ entries) all =
    ap (λ (o : Option ℕ). option_map_or (λ line. Some (let found : Unmet = record { entry = Some at; line = line } in found)) o (entries_unmet style admits (at + 1) entries))
    (entry_kept style admits entry all.0) ∙ entries_kept style admits (at + 1) entries all.1

-- the first entry that doesn't keep a line, among those from a place on
module _ (style : Style) (admits : Cond) (entries : List Entry) (at : ℕ) (entry : Entry)
    (left : entries_unmet style admits at (drop at entries) ≡ entries_unmet style admits 0 entries) (here : slice_get entries at ≡ Some entry) where
  from_here : (o : Option ℕ) → o ≡ entry_unmet style admits entry
      → option_map_or (λ line. Some (let found : Unmet = record { entry = Some at; line = line } in found)) o (entries_unmet style admits (at + 1) (drop (at + 1) entries))
      ≡ entries_unmet style admits 0 entries
  from_here o is =
      ap (λ (p : Option ℕ). option_map_or (λ line. Some (let found : Unmet = record { entry = Some at; line = line } in found)) p
      (entries_unmet style admits (at + 1) (drop (at + 1) entries))) is
      ∙ ap (λ l. entries_unmet style admits at l) (sym (drop_read entries at entry here))
      ∙ left

  pub unmet_here : (line : ℕ) → Some line ≡ entry_unmet style admits entry
      → Some (let found : Unmet = record { entry = Some at; line = line } in found) ≡ entries_unmet style admits 0 entries
  unmet_here line is = from_here (Some line) is

  pub unmet_later : None ≡ entry_unmet style admits entry
      → entries_unmet style admits (at + 1) (drop (at + 1) entries) ≡ entries_unmet style admits 0 entries
  unmet_later is = from_here None is

-- the whole list
pub none_unmet : (style : Style) (admits : Cond) (list : EntryList) → first_unmet style admits list ≡ None → Meets style admits list
none_unmet style admits list e =
    elim (nat_le (length list.entries) admits.entries) as (λ (t : Bool). nat_le (length list.entries) admits.entries ≡ t
    → cond t (cond (nat_le (length list.preamble) admits.preamble) (entries_unmet style admits 0 list.entries) (Some (record { entry = None; line = 2 })))
    (Some (record { entry = None; line = 0 })) ≡ None → Meets style admits list) [
      | true ↦ λ few next.
          elim (nat_le (length list.preamble) admits.preamble) as (λ (t : Bool). nat_le (length list.preamble) admits.preamble ≡ t
          → cond t (entries_unmet style admits 0 list.entries) (Some (record { entry = None; line = 2 })) ≡ None → Meets style admits list) [
            | true ↦ λ short rest. record {
              entries = bound_holds (length list.entries) admits.entries few;
              preamble = bound_holds (length list.preamble) admits.preamble short;
              each = entries_hold style admits 0 list.entries rest;
            }
            | false ↦ λ short rest. absurd (cc)
          ] refl next
      | false ↦ λ few next. absurd (cc)
    ] refl e

pub none_met : (style : Style) (admits : Cond) (list : EntryList) → Meets style admits list → first_unmet style admits list ≡ None
none_met style admits list meets =
    ap (λ (t : Bool). cond t (cond (nat_le (length list.preamble) admits.preamble) (entries_unmet style admits 0 list.entries) (Some (record { entry = None; line = 2 })))
    (Some (record { entry = None; line = 0 }))) (bound_tested (length list.entries) admits.entries meets.entries)
    ∙ ap (λ (t : Bool). cond t (entries_unmet style admits 0 list.entries) (Some (record { entry = None; line = 2 })))
    (bound_tested (length list.preamble) admits.preamble meets.preamble)
    ∙ entries_kept style admits 0 list.entries meets.each
