-- Each variable and field that has a value where a unit is entered has one of its kind.
use Rattle.std.proofs.Common.{◌≡◌, ℕ, zero, suc, ◌+◌, ◌≤◌, Bool, true, false, cond, nat_eq, List, [], ◌∷◌, length, map, slice_get, Option, None, Some, not, refl, sym, ap, subst, ◌∙◌, arith}
use Rattle.std.specs.Prelude.{◌&&◌, ◌||◌, ◌≤ℤ◌, pos, IsSome}
use Rattle.std.specs.List.{AllByRecursion, list_all, list_any}
use Rattle.std.specs.Option.{ForSome, option_and_then, option_map}
use Rattle.std.proofs.lemmas.Bool.Decides.{nat_tests}
use Rattle.std.proofs.lemmas.Int.{ints}
use Rattle.bv_base.specs.Bytes.{is_white}
use Rattle.name_table.specs.Names.{kind_at}
use Rattle.name_table.specs.declared.names.Kind.{Kind}
use Rattle.name_table.specs.declared.names.Kind.TheVariants.{Field, IntEntry, StrEntry, IntGlobal, StrGlobal}
use Rattle.name_table.specs.declared.names.NameId.{NameId}
use Rattle.name_table.specs.declared.style.Style.{Style}
use Rattle.bst_meaning.specs.Condition.{EntryMeets, FieldHasNames, FieldIsNonblank, HasInk}
use Rattle.bst_meaning.specs.Config.{Config, EntryState, Variable}
use Rattle.bst_meaning.specs.Entries.{EntryFits, IsByteList, field_ids_at, field_ids_from}
use Rattle.bst_meaning.specs.Invariant.{IsEntrySound, IsWellFormed}
use Rattle.bst_meaning.specs.Machine.{field_in, field_value, value_at, visited_entry, visited_index}
use Rattle.bst_meaning.specs.StyleParts.{kind_of}
use Rattle.bst_meaning.specs.Values.{IsOfKind}
use Rattle.bst_meaning.specs.declared.condition.Cond.{Cond}
use Rattle.bst_meaning.specs.declared.condition.NamesLine.{NamesLine}
use Rattle.bst_meaning.specs.EntryLists.{Entry}
use Rattle.bst_meaning.specs.FieldValues.{FieldValue}
use Rattle.bst_meaning.specs.declared.value.TheConstants.{ENTRY_SIZE, GLOBAL_SIZE}
use Rattle.bst_meaning.specs.declared.value.Value.{Value}
use Rattle.bst_meaning.specs.declared.value.Value.TheVariants.{Int, Str, Missing}
use Rattle.sym_state.specs.Facts.{emptiness, has_good_names, has_kind}
use Rattle.sym_state.specs.Opening.{HasValue, IsOfItsKind}
use Rattle.sym_state.specs.Stands.{value_by}
use Rattle.sym_state.specs.Starting.{most_names, names_in_play}
use Rattle.sym_state.specs.Symbols.{IsValue, length_of, name_count_of}
use Rattle.sym_state.specs.WellMade.{ids_from, takes_part}
use Rattle.sym_state.specs.declared.symbol.Kinds.TheVariants.{Optional}
use Rattle.sym_state.proofs.Spots.{Spot}
use Rattle.builtin_effects.proofs.Assigned.{variable_bound}
use Rattle.builtin_effects.proofs.EntryCovers.{entry_given}

-- what holds of each element holds of one that is there
pub got_all : {X : Type 0} (P : X → Type 0) (xs : List X) (i : ℕ) (x : X) → AllByRecursion P xs → slice_get xs i ≡ Some x → P x
got_all P [] i x all e = absurd (cc)
got_all P (y ∷ ys) zero x all e = let same : y ≡ x = cc in subst P same all.0
got_all P (y ∷ ys) (suc i) x all e = got_all P ys i x all.1 e

same_number : (a b : ℕ) → nat_eq a b ≡ true → a ≡ b
same_number a b e = grind (arith, nat_tests)

both_same : (a b c : ℕ) → nat_eq a c ≡ true → nat_eq b c ≡ true → nat_eq a b ≡ true
both_same a b c e f = grind (arith, nat_tests)

-- what holds of each variable holds of one that has a value
pub value_kind : (P : NameId → Value → Type 0) (id : ℕ) (variables : List Variable) (x : Value) → AllByRecursion (λ v. P v.name v.value) variables
    → value_at id variables ≡ Some x → P (record { 0 = id }) x
value_kind P id [] x all e = absurd (cc)
value_kind P id (v ∷ variables) x all e =
    elim (nat_eq v.name.0 id) as (λ (t : Bool). nat_eq v.name.0 id ≡ t → cond t (Some v.value) (value_at id variables) ≡ Some x
    → P (record { 0 = id }) x) [
      | true ↦ λ is found.
          let value : v.value ≡ x = cc in
          let same : v.name ≡ record { 0 = id } = ap (λ (n : ℕ). let name : NameId = record { 0 = n } in name) (same_number v.name.0 id is) in
          subst (λ (y : Value). P (record { 0 = id }) y) value (subst (λ (n : NameId). P n v.value) same all.0)
      | false ↦ λ is found. value_kind P id variables x all.1 found
    ] refl e

-- a value that can be there, of the kind of its name
pub record ValueFits (admits : Cond) (found : Option Kind) (name : NameId) (x : Value) : Type 0 where
  pub valid : IsValue x
  pub kind : IsOfItsKind admits found name x

pub variable_fits : (admits : Cond) (found : Option Kind) (name : NameId) (x : Value) → IsOfKind found x → ValueFits admits found name x
variable_fits admits (Some IntEntry) name (Int n) h = record { valid = h; kind = refl }
variable_fits admits (Some IntGlobal) name (Int n) h = record { valid = h; kind = refl }
variable_fits admits (Some StrEntry) name (Str bytes) h =
    let few : length bytes ≤ ENTRY_SIZE = h.1 in record { valid = h.0; kind = (refl, omega (arith, ints, few)) }
variable_fits admits (Some StrGlobal) name (Str bytes) h =
    let few : length bytes ≤ GLOBAL_SIZE = h.1 in record { valid = h.0; kind = (refl, omega (arith, ints, few)) }
variable_fits admits _ name _ h = absurd h

-- what holds of a missing value, and of a field's where it has one
field_has : (P : Value → Type 0) (Q : FieldValue → Type 0) (name : NameId) (fields : List FieldValue) → P (Missing name)
    → ((f : FieldValue) → nat_eq f.name.0 name.0 ≡ true → Q f → P (field_value name f.value)) → AllByRecursion Q fields → P (field_in name fields)
field_has P Q name [] missing each all = missing
field_has P Q name (f ∷ fields) missing each all =
    elim (nat_eq f.name.0 name.0) as (λ (t : Bool). nat_eq f.name.0 name.0 ≡ t → P (cond t (field_value name f.value) (field_in name fields))) [
      | true ↦ λ is. each f is all.0
      | false ↦ λ is. field_has P Q name fields missing each all.1
    ] refl

-- the same where the field is among them
field_there : (P : Value → Type 0) (Q : FieldValue → Type 0) (name : NameId) (fields : List FieldValue)
    → list_any (λ (n : NameId). nat_eq n.0 name.0) (map (λ (f : FieldValue). f.name) fields) ≡ true
    → ((f : FieldValue) → nat_eq f.name.0 name.0 ≡ true → Q f → P (field_value name f.value)) → AllByRecursion Q fields → P (field_in name fields)
field_there P Q name [] there each all = absurd (cc)
field_there P Q name (f ∷ fields) there each all =
    elim (nat_eq f.name.0 name.0) as (λ (t : Bool). nat_eq f.name.0 name.0 ≡ t
    → (t || list_any (λ (n : NameId). nat_eq n.0 name.0) (map (λ (g : FieldValue). g.name) fields)) ≡ true
    → P (cond t (field_value name f.value) (field_in name fields))) [
      | true ↦ λ is later. each f is all.0
      | false ↦ λ is later. field_there P Q name fields later each all.1
    ] refl there

-- a field is among those of the style
kept_among : (n : ℕ) (id : ℕ) (kind : Kind) (later : List NameId) → list_any (λ (m : NameId). nat_eq m.0 n) later ≡ true
    → list_any (λ (m : NameId). nat_eq m.0 n) (field_ids_at id kind later) ≡ true
kept_among n id Field later e = by (nat_eq id n)
  where
    by : (t : Bool) → (t || list_any (λ (m : NameId). nat_eq m.0 n) later) ≡ true
    by true = refl
    by false = e
kept_among n id _ later e = e

field_among : (id i : ℕ) (names : List (List ℕ × Kind)) → kind_at (record { 0 = i }) names ≡ Some Field
    → list_any (λ (m : NameId). nat_eq m.0 (id + i)) (field_ids_from id names) ≡ true
field_among id i [] e = absurd (cc)
field_among id zero (name ∷ names) e =
    let is : name.1 ≡ Field = cc in
    let same : nat_eq id (id + 0) ≡ true = grind (arith, nat_tests) in
    ap (λ (k : Kind). list_any (λ (m : NameId). nat_eq m.0 (id + 0)) (field_ids_at id k (field_ids_from (id + 1) names))) is
    ∙ ap (λ (t : Bool). t || list_any (λ (m : NameId). nat_eq m.0 (id + 0)) (field_ids_from (id + 1) names)) same
field_among id (suc i) (name ∷ names) e =
    let next : (id + 1) + i ≡ id + suc i = omega arith in
    kept_among (id + suc i) id name.1 (field_ids_from (id + 1) names)
    (subst (λ (n : ℕ). list_any (λ (m : NameId). nat_eq m.0 n) (field_ids_from (id + 1) names) ≡ true) next (field_among (id + 1) i names e))

-- a string that has a byte which isn't white space isn't blank
ink_shows : (bytes : List ℕ) → HasInk bytes → list_all is_white bytes ≡ false
ink_shows [] e = absurd (cc)
ink_shows (b ∷ bytes) e =
    elim (is_white b) as (λ (t : Bool). (not t || list_any (λ (c : ℕ). not (is_white c)) bytes) ≡ true → (t && list_all is_white bytes) ≡ false) [
      | true ↦ λ later. ink_shows bytes later
      | false ↦ λ later. refl
    ] e

ink_of : (name : NameId) (value : Option (List ℕ)) → IsSome value → ForSome value HasInk → emptiness (field_value name value) ≡ Some false
ink_of name None there ink = absurd (cc)
ink_of name (Some bytes) there ink = ap Some (ink_shows bytes (ink bytes refl))

ink_field : (admits : Cond) (name : NameId) (fields : List FieldValue) (lines : List NameId)
    → list_any (λ (n : NameId). nat_eq n.0 name.0) (map (λ (f : FieldValue). f.name) fields) ≡ true
    → AllByRecursion (λ other. AllByRecursion (FieldIsNonblank other) fields) lines → list_any (λ (other : NameId). nat_eq other.0 name.0) lines ≡ true
    → emptiness (field_in name fields) ≡ Some false
ink_field admits name fields [] there all e = absurd (cc)
ink_field admits name fields (other ∷ lines) there all e =
    elim (nat_eq other.0 name.0) as (λ (t : Bool). nat_eq other.0 name.0 ≡ t → (t || list_any (λ (n : NameId). nat_eq n.0 name.0) lines) ≡ true
    → emptiness (field_in name fields) ≡ Some false) [
      | true ↦ λ is later. field_there (λ (x : Value). emptiness x ≡ Some false) (FieldIsNonblank other) name fields there
          (λ f same h. let ink = h (both_same f.name.0 other.0 name.0 same is) in ink_of name f.value ink.0 ink.1) all.0
      | false ↦ λ is later. ink_field admits name fields lines there all.1 later
    ] refl e

-- a field is no longer than the condition says
length_bound : (name : NameId) (most : ℕ) (value : Option (List ℕ)) → ForSome value (λ bytes. length bytes ≤ most)
    → length_of (field_value name value) ≤ℤ pos most
length_bound name most None h = omega (arith, ints)
length_bound name most (Some bytes) h = let few = h bytes refl in omega (arith, ints, few)

-- its names are as a line says
names_bound : (name : NameId) (line : NamesLine) (field : FieldValue) (value : Option (List ℕ)) → field.value ≡ value → FieldHasNames line field
    → nat_eq field.name.0 line.field.0 ≡ true
    → (has_good_names (field_value name value) ≡ true) × (name_count_of (field_value name value) ≤ℤ pos line.most)
names_bound name line field None is h same = (refl, omega (arith, ints))
names_bound name line field (Some bytes) is h same =
    let both = h same bytes is in let few = both.0 in (both.1, omega (arith, ints, few))

names_field : (name : NameId) (fields : List FieldValue) (lines : List NamesLine) (most : ℕ)
    → AllByRecursion (λ line. AllByRecursion (FieldHasNames line) fields) lines → most_names name lines ≡ Some most
    → (has_good_names (field_in name fields) ≡ true) × (name_count_of (field_in name fields) ≤ℤ pos most)
names_field name fields [] most all e = absurd (cc)
names_field name fields (line ∷ lines) most all e =
    elim (nat_eq line.field.0 name.0) as (λ (t : Bool). nat_eq line.field.0 name.0 ≡ t → cond t (Some line.most) (most_names name lines) ≡ Some most
    → (has_good_names (field_in name fields) ≡ true) × (name_count_of (field_in name fields) ≤ℤ pos most)) [
      | true ↦ λ is found.
          let same : line.most ≡ most = cc in
          subst (λ (m : ℕ). (has_good_names (field_in name fields) ≡ true) × (name_count_of (field_in name fields) ≤ℤ pos m)) same
          (field_has (λ (x : Value). (has_good_names x ≡ true) × (name_count_of x ≤ℤ pos line.most)) (FieldHasNames line) name fields
          (refl, omega (arith, ints))
          (λ f there h. names_bound name line f f.value refl h (both_same f.name.0 line.field.0 name.0 there is)) all.0)
      | false ↦ λ is found. names_field name fields lines most all.1 found
    ] refl e

-- bytes of a field
field_valid : (name : NameId) (value : Option (List ℕ)) → ForSome value IsByteList → IsValue (field_value name value)
field_valid name None h = tt
field_valid name (Some bytes) h = h bytes refl

field_optional : (name : NameId) (value : Option (List ℕ)) → has_kind Optional (field_value name value) ≡ true
field_optional name None = refl
field_optional name (Some bytes) = refl

-- the value of a field is as the condition says
pub field_fits : (style : Style) (admits : Cond) (name : NameId) (entry : Entry) → kind_of style name ≡ Some Field → EntryFits style entry
    → EntryMeets style admits entry → ValueFits admits (Some Field) name (field_in name entry.fields)
field_fits style admits name entry is fits meets =
    let none : 0 + name.0 ≡ name.0 = omega arith in
    let at : list_any (λ (n : NameId). nat_eq n.0 name.0) (map (λ (f : FieldValue). f.name) entry.fields) ≡ true =
    ap (λ (ns : List NameId). list_any (λ (n : NameId). nat_eq n.0 name.0) ns) fits.fields
    ∙ subst (λ (m : ℕ). list_any (λ (n : NameId). nat_eq n.0 m) (field_ids_from 0 style.names) ≡ true) none (field_among 0 name.0 style.names is) in
    record {
      valid = field_has IsValue (λ f. ForSome f.value IsByteList) name entry.fields tt (λ f there h. field_valid name f.value h) fits.field_bytes;
      kind = record {
        kind = field_has (λ (x : Value). has_kind Optional x ≡ true) (λ f. ForSome f.value IsByteList) name entry.fields refl
            (λ f there h. field_optional name f.value) fits.field_bytes;
        ink = λ wanted. ink_field admits name entry.fields admits.nonblank at meets.nonblank wanted;
        length = field_has (λ (x : Value). length_of x ≤ℤ pos admits.length) (λ f. ForSome f.value (λ bytes. length bytes ≤ admits.length)) name entry.fields
            (omega (arith, ints)) (λ f there h. length_bound name admits.length f.value h) meets.length;
        names = λ most line. names_field name entry.fields admits.names most meets.names line;
      };
    }

-- what is there has a value of its kind
value_there : (s : Spot) (name : NameId) (k : Kind) (x : Value) → kind_of s.style name ≡ Some k
    → value_by (Some k) name s.c.globals (visited_entry s.c) ≡ Some x → ValueFits s.admits (Some k) name x
    → HasValue s.style s.admits s.c.globals (visited_entry s.c) name
value_there s name k x is found fits = record {
  value = x;
  is = ap (λ (o : Option Kind). value_by o name s.c.globals (visited_entry s.c)) is ∙ found;
  valid = fits.valid;
  kind = subst (λ (o : Option Kind). IsOfItsKind s.admits o name x) (sym is) fits.kind;
}

-- the value of a variable among those of the configuration or of an entry
value_of_kind : (s : Spot) (name : NameId) (k : Kind) (variables : List Variable) (x : Value) → kind_of s.style name ≡ Some k
    → AllByRecursion (λ v. IsOfKind (kind_of s.style v.name) v.value) variables → value_at name.0 variables ≡ Some x → ValueFits s.admits (Some k) name x
value_of_kind s name k variables x is all found =
    variable_fits s.admits (Some k) name x
    (subst (λ (o : Option Kind). IsOfKind o x) is (value_kind (λ (n : NameId) (y : Value). IsOfKind (kind_of s.style n) y) name.0 variables x all found))

-- the entry that is visited is one of the style's
visited_sound : (s : Spot) (e : EntryState) → IsWellFormed s.style s.list s.c → visited_entry s.c ≡ Some e → IsEntrySound s.style e
visited_sound s e formed is =
    elim (visited_index s.c) as (λ (o : Option ℕ). option_and_then (slice_get s.c.entries) o ≡ Some e → IsEntrySound s.style e) [
      | Some i ↦ λ found. got_all (IsEntrySound s.style) s.c.entries i e formed.entries found
      | None ↦ λ found. absurd (cc)
    ] is

entry_value : (s : Spot) (name : NameId) (k : Kind) (x : Value) → IsWellFormed s.style s.list s.c → kind_of s.style name ≡ Some k → s.state.at_entry ≡ true
    → option_and_then (λ (e : EntryState). value_at name.0 e.variables) (visited_entry s.c) ≡ Some x → ValueFits s.admits (Some k) name x
entry_value s name k x formed is there found =
    let at = entry_given s there in
    value_of_kind s name k at.entry.variables x is (visited_sound s at.entry formed at.visited).variables.values
    (sym (ap (λ (o : Option EntryState). option_and_then (λ (e : EntryState). value_at name.0 e.variables) o) at.visited) ∙ found)

or_false : (t : Bool) → (t || false) ≡ true → t ≡ true
or_false true e = refl
or_false false e = absurd (cc)

-- a name that has a value
pub have_value : (s : Spot) (at_entry : Bool) (name : NameId) (k : Kind) → IsWellFormed s.style s.list s.c → (at_entry ≡ true → s.state.at_entry ≡ true)
    → kind_of s.style name ≡ Some k → takes_part at_entry k ≡ true → HasValue s.style s.admits s.c.globals (visited_entry s.c) name
have_value s at_entry name IntGlobal formed there is takes =
    let found = variable_bound s name IntGlobal is refl in
    value_there s name IntGlobal found.value is found.is (value_of_kind s name IntGlobal s.c.globals found.value is formed.globals.values found.is)
have_value s at_entry name StrGlobal formed there is takes =
    let found = variable_bound s name StrGlobal is refl in
    value_there s name StrGlobal found.value is found.is (value_of_kind s name StrGlobal s.c.globals found.value is formed.globals.values found.is)
have_value s at_entry name IntEntry formed there is takes =
    let here = there (or_false at_entry takes) in
    let found = variable_bound s name IntEntry is here in
    value_there s name IntEntry found.value is found.is (entry_value s name IntEntry found.value formed is here found.is)
have_value s at_entry name StrEntry formed there is takes =
    let here = there (or_false at_entry takes) in
    let found = variable_bound s name StrEntry is here in
    value_there s name StrEntry found.value is found.is (entry_value s name StrEntry found.value formed is here found.is)
have_value s at_entry name Field formed there is takes =
    let at = entry_given s (there takes) in
    value_there s name Field (field_in name at.entry.entry.fields) is
    (ap (λ (o : Option EntryState). option_map (λ (e : EntryState). field_in name e.entry.fields) o) at.visited)
    (field_fits s.style s.admits name at.entry.entry is at.fits at.meets)
have_value s at_entry name _ formed there is takes = absurd (cc)

-- what holds of each number whose kind passes a test holds of the ids
pub all_ids : (P : NameId → Type 0) (test : Kind → Bool) (id : ℕ) (names : List (List ℕ × Kind))
    → ((i : ℕ) (k : Kind) → kind_at (record { 0 = i }) names ≡ Some k → test k ≡ true → P (record { 0 = id + i }))
    → AllByRecursion P (ids_from test id names)
all_ids P test id [] each = tt
all_ids P test id (name ∷ names) each =
    let rest : AllByRecursion P (ids_from test (suc id) names) = all_ids P test (suc id) names (λ i k is takes.
    let next : id + suc i ≡ suc id + i = omega arith in
    subst (λ (n : ℕ). P (record { 0 = n })) next (each (suc i) k is takes)) in
    let here : id + 0 ≡ id = omega arith in
    elim (test name.1) as (λ (t : Bool). test name.1 ≡ t → AllByRecursion P (cond t (record { 0 = id } ∷ ids_from test (suc id) names) (ids_from test (suc id) names))) [
      | true ↦ λ is. (subst (λ (n : ℕ). P (record { 0 = n })) here (each 0 name.1 refl is), rest)
      | false ↦ λ is. rest
    ] refl

-- all that take part have a value where each has
pub have_all : (style : Style) (admits : Cond) (c : Config) (at_entry : Bool)
    → ((name : NameId) (k : Kind) → kind_of style name ≡ Some k → takes_part at_entry k ≡ true → HasValue style admits c.globals (visited_entry c) name)
    → AllByRecursion (HasValue style admits c.globals (visited_entry c)) (names_in_play style at_entry)
have_all style admits c at_entry have =
    all_ids (HasValue style admits c.globals (visited_entry c)) (takes_part at_entry) 0 style.names (λ i k is takes.
    let here : i ≡ 0 + i = omega arith in
    subst (λ (n : ℕ). HasValue style admits c.globals (visited_entry c) (record { 0 = n })) here (have (record { 0 = i }) k is takes))
