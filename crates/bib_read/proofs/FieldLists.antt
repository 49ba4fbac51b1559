-- The fields of an entry, in one piece of memory and in two parts.
use Rattle.std.proofs.Common.{◌≡◌, ℕ, zero, suc, ◌+◌, ◌*◌, ◌/◌, ◌<◌, ◌≤◌, le_refl, refl, sym, ap, subst, ◌∙◌, Bool, true, false, cond, ◌||◌, List, [], ◌∷◌, ◌++◌, Option, None, Some, Result, Ok, Err, is_some, option_map, append_assoc, drop, get_or, length, slice_get, take, arith}
use Rattle.std.proofs.lemmas.List.{drop-append-le, drop_all, length-append, take-append-drop, take_all}
use Rattle.std.proofs.lemmas.List.Folds.{list_any-append}
use Rattle.std.proofs.lemmas.Option.{slice_get_past}
use Rattle.std.specs.Prelude.{OnErr, OnOk}
use Rattle.bv_base.specs.declared.memory.NoMemory.{NoMemory}
use Rattle.bv_base.specs.KeySets.{has_key}
use Rattle.name_table.specs.Names.{same_name}
use Rattle.bib_read.specs.RawFields.{ArePaired, RawField, fields_in}
use Rattle.bib_read.specs.Names.{has_field, text_of}

-- one field more
pub field_pushed : (texts : List (Option (List ℕ))) (name value : List ℕ) → ArePaired texts
    → fields_in (texts ++ Some name ∷ Some value ∷ []) ≡ fields_in texts ++ record { name = name; value = value } ∷ []
field_pushed [] name value paired = refl
field_pushed (first ∷ []) name value paired = absurd paired
field_pushed (Some n ∷ Some v ∷ texts) name value paired =
    ap (λ (l : List RawField). record { name = n; value = v } ∷ l) (field_pushed texts name value paired)
field_pushed (Some n ∷ None ∷ texts) name value paired = absurd paired
field_pushed (None ∷ second ∷ texts) name value paired = absurd paired

pub pair_pushed : (texts : List (Option (List ℕ))) (name value : List ℕ) → ArePaired texts → ArePaired (texts ++ Some name ∷ Some value ∷ [])
pair_pushed [] name value paired = tt
pair_pushed (first ∷ []) name value paired = absurd paired
pair_pushed (Some n ∷ Some v ∷ texts) name value paired = pair_pushed texts name value paired
pair_pushed (Some n ∷ None ∷ texts) name value paired = absurd paired
pair_pushed (None ∷ second ∷ texts) name value paired = absurd paired

-- a field has two texts
pub two_each : (texts : List (Option (List ℕ))) → ArePaired texts → length texts ≡ length (fields_in texts) * 2
two_each [] paired = refl
two_each (first ∷ []) paired = absurd paired
two_each (Some n ∷ Some v ∷ texts) paired = let later : length texts ≡ length (fields_in texts) * 2 = two_each texts paired in omega (arith, later)
two_each (Some n ∷ None ∷ texts) paired = absurd paired
two_each (None ∷ second ∷ texts) paired = absurd paired

-- a name and a value
abbrev pub pair_of : Option (List ℕ) → Option (List ℕ) → Option RawField
pair_of (Some name) (Some value) = Some (record { name = name; value = value })
pair_of (Some name) None = None
pair_of None value = None

-- the field at a place
pub field_at : (texts : List (Option (List ℕ))) (at : ℕ) → ArePaired texts
    → slice_get (fields_in texts) at ≡ pair_of (get_or texts (at * 2) None) (get_or texts (at * 2 + 1) None)
field_at [] at paired = refl
field_at (first ∷ []) at paired = absurd paired
field_at (Some n ∷ Some v ∷ texts) zero paired = refl
field_at (Some n ∷ Some v ∷ texts) (suc at) paired =
    let name : suc at * 2 ≡ suc (suc (at * 2)) = omega arith in
    let value : suc at * 2 + 1 ≡ suc (suc (at * 2 + 1)) = omega arith in
    field_at texts at paired
    ∙ ap (λ (i : ℕ). pair_of (get_or (Some n ∷ Some v ∷ texts) i None) (get_or texts (at * 2 + 1) None)) (sym name)
    ∙ ap (λ (i : ℕ). pair_of (get_or (Some n ∷ Some v ∷ texts) (suc at * 2) None) (get_or (Some n ∷ Some v ∷ texts) i None)) (sym value)
field_at (Some n ∷ None ∷ texts) at paired = absurd paired
field_at (None ∷ second ∷ texts) at paired = absurd paired

-- the name of the field at a place
pub name_at : (texts : List (Option (List ℕ))) (at : ℕ) → ArePaired texts
    → get_or texts (at * 2) None ≡ option_map (λ (f : RawField). f.name) (slice_get (fields_in texts) at)
name_at [] at paired = refl
name_at (first ∷ []) at paired = absurd paired
name_at (Some n ∷ Some v ∷ texts) zero paired = refl
name_at (Some n ∷ Some v ∷ texts) (suc at) paired =
    let place : suc at * 2 ≡ suc (suc (at * 2)) = omega arith in
    ap (λ (i : ℕ). get_or (Some n ∷ Some v ∷ texts) i None) place ∙ name_at texts at paired
name_at (Some n ∷ None ∷ texts) at paired = absurd paired
name_at (None ∷ second ∷ texts) at paired = absurd paired

-- a name that isn't among so many fields, nor the name of the next, isn't among one more
pub not_yet : (name : List ℕ) (fields : List RawField) (at : ℕ) (field : RawField) → text_of name (take at fields) ≡ None
    → slice_get fields at ≡ Some field → same_name name field.name ≡ false → text_of name (take (suc at) fields) ≡ None
not_yet name [] at field before here other = absurd (cc)
not_yet name (first ∷ fields) zero field before here other =
    let it : first ≡ field = cc in
    ap (λ (f : RawField). cond (same_name name f.name) (Some f.value) None) it ∙ ap (λ (t : Bool). cond t (Some field.value) None) other
not_yet name (first ∷ fields) (suc at) field before here other =
    by (same_name name first.name) before (λ later. not_yet name fields at field later here other)
  where
    by : (t : Bool) → cond t (Some first.value) (text_of name (take at fields)) ≡ None
        → (text_of name (take at fields) ≡ None → text_of name (take (suc at) fields) ≡ None)
        → cond t (Some first.value) (text_of name (take (suc at) fields)) ≡ None
    by true e later = absurd (cc)
    by false e later = later e

-- the field of a name that isn't among those before it
pub found_here : (name : List ℕ) (fields : List RawField) (at most : ℕ) (field : RawField) → at < most → text_of name (take at fields) ≡ None
    → slice_get fields at ≡ Some field → same_name name field.name ≡ true → Some field.value ≡ text_of name (take most fields)
found_here name fields at zero field early before here same = absurd (omega (arith, early))
found_here name [] at (suc most) field early before here same = absurd (cc)
found_here name (first ∷ fields) zero (suc most) field early before here same =
    let it : first ≡ field = cc in
    sym (ap (λ (f : RawField). cond (same_name name f.name) (Some f.value) (text_of name (take most fields))) it
    ∙ ap (λ (t : Bool). cond t (Some field.value) (text_of name (take most fields))) same)
found_here name (first ∷ fields) (suc at) (suc most) field early before here same =
    by (same_name name first.name) before (λ later. found_here name fields at most field (omega (arith, early)) later here same)
  where
    by : (t : Bool) → cond t (Some first.value) (text_of name (take at fields)) ≡ None
        → (text_of name (take at fields) ≡ None → Some field.value ≡ text_of name (take most fields))
        → Some field.value ≡ cond t (Some first.value) (text_of name (take most fields))
    by true e later = absurd (cc)
    by false e later = later e

-- a field that is read has the name that was read at its place
pub named_as : (fields : List RawField) (at : ℕ) (found : List ℕ) (field : RawField) → Some found ≡ option_map (λ (f : RawField). f.name) (slice_get fields at)
    → slice_get fields at ≡ Some field → found ≡ field.name
named_as fields at found field named here =
    let both : Some found ≡ Some field.name = named ∙ ap (λ (o : Option RawField). option_map (λ (f : RawField). f.name) o) here in
    cc

-- where a name was read there is a field
pub some_named : (fields : List RawField) (at : ℕ) (found : List ℕ) → Some found ≡ option_map (λ (f : RawField). f.name) (slice_get fields at)
    → None ≡ slice_get fields at → ⊥
some_named fields at found named none =
    let both : Some found ≡ None = named ∙ ap (λ (o : Option RawField). option_map (λ (f : RawField). f.name) o) (sym none) in
    cc

-- a name that isn't among so many fields, nor the one that is read behind them, isn't among one more
pub not_named : (name : List ℕ) (fields : List RawField) (at : ℕ) (found : List ℕ) → text_of name (take at fields) ≡ None
    → Some found ≡ option_map (λ (f : RawField). f.name) (slice_get fields at) → same_name name found ≡ false → text_of name (take (suc at) fields) ≡ None
not_named name fields at found before named other = by (slice_get fields at) refl named
  where
    by : (o : Option RawField) → slice_get fields at ≡ o → Some found ≡ option_map (λ (f : RawField). f.name) o → text_of name (take (suc at) fields) ≡ None
    by None here named = absurd (cc)
    by (Some field) here named =
        let it : found ≡ field.name = cc in
        not_yet name fields at field before here (subst (λ n. same_name name n ≡ false) it other)

-- no field stands behind so many
pub found_nowhere : (name : List ℕ) (fields : List RawField) (at most : ℕ) → at < most → text_of name (take at fields) ≡ None
    → slice_get fields at ≡ None → None ≡ text_of name (take most fields)
found_nowhere name fields at zero early before none = absurd (omega (arith, early))
found_nowhere name [] at (suc most) early before none = refl
found_nowhere name (first ∷ fields) zero (suc most) early before none = absurd (cc)
found_nowhere name (first ∷ fields) (suc at) (suc most) early before none =
    by (same_name name first.name) before (λ later. found_nowhere name fields at most (omega (arith, early)) later none)
  where
    by : (t : Bool) → cond t (Some first.value) (text_of name (take at fields)) ≡ None
        → (text_of name (take at fields) ≡ None → None ≡ text_of name (take most fields))
        → None ≡ cond t (Some first.value) (text_of name (take most fields))
    by true e later = absurd (cc)
    by false e later = later e

-- all fields are the first so many
pub all_first : (name : List ℕ) (fields : List RawField) → text_of name (take (length fields) fields) ≡ text_of name fields
all_first name fields = ap (λ (l : List RawField). text_of name l) (take_all (length fields) fields (le_refl (length fields)))

-- a field of a name is there exactly where it has a text
has_text : (name : List ℕ) (fields : List RawField) → is_some (text_of name fields) ≡ has_field name fields
has_text name [] = refl
has_text name (first ∷ fields) = by (same_name name first.name) (has_text name fields)
  where
    by : (t : Bool) → is_some (text_of name fields) ≡ has_field name fields
        → is_some (cond t (Some first.value) (text_of name fields)) ≡ (t || has_field name fields)
    by true later = refl
    by false later = later

-- a name is among the first few fields or among those behind them
pub has_either : (few : ℕ) (name : List ℕ) (fields : List RawField)
    → (is_some (text_of name (take few fields)) || has_field name (drop few fields)) ≡ has_field name fields
has_either few name fields =
    ap (λ (t : Bool). t || has_field name (drop few fields)) (has_text name (take few fields))
    ∙ sym (list_any-append (λ (field : RawField). same_name name field.name) (take few fields) (drop few fields))
    ∙ ap (λ (l : List RawField). has_field name l) (take-append-drop few fields)

-- one of the first few fields more
pub few_added : (few : ℕ) (name : List ℕ) (fields : List RawField) (field : RawField) (keys : List (List ℕ)) → length fields < few
    → has_key name keys ≡ has_field name (drop few fields) → has_key name keys ≡ has_field name (drop few (fields ++ field ∷ []))
few_added few name fields field keys early is =
    is
    ∙ ap (λ (l : List RawField). has_field name l)
    (drop_all few fields (omega (arith, early))
    ∙ sym (drop_all few (fields ++ field ∷ []) (omega (arith, early, length-append fields (field ∷ [])))))

turned : (a b : Bool) → (a || b) ≡ (b || (a || false))
turned true true = refl
turned true false = refl
turned false true = refl
turned false false = refl

-- a field more behind the first few
pub behind_added : (few : ℕ) (name : List ℕ) (fields : List RawField) (field : RawField) (old new : List (List ℕ)) → few ≤ length fields
    → has_key name old ≡ has_field name (drop few fields) → has_key name new ≡ (same_name name field.name || has_key name old)
    → has_key name new ≡ has_field name (drop few (fields ++ field ∷ []))
behind_added few name fields field old new late is added =
    added
    ∙ ap (λ (t : Bool). same_name name field.name || t) is
    ∙ turned (same_name name field.name) (has_field name (drop few fields))
    ∙ sym (list_any-append (λ (f : RawField). same_name name f.name) (drop few fields) (field ∷ []))
    ∙ ap (λ (l : List RawField). has_field name l) (sym (drop-append-le few fields (field ∷ []) late))

-- a name and its value behind fields
pub pushed_twice : (texts named later : List (Option (List ℕ))) (name value : List ℕ) → named ≡ texts ++ Some name ∷ [] → later ≡ named ++ Some value ∷ []
    → later ≡ texts ++ Some name ∷ Some value ∷ []
pushed_twice texts named later name value first second =
    second
    ∙ ap (λ (l : List (Option (List ℕ))). l ++ Some value ∷ []) first
    ∙ append_assoc texts (Some name ∷ []) (Some value ∷ [])

-- the keys of the fields behind the first few, after one of these, or after none is left
pub few_after : (few : ℕ) (fields later : List RawField) (field : RawField) (keys : List (List ℕ)) (r : Result (Unit {0}) NoMemory) → length fields < few
    → OnOk r (later ≡ fields ++ field ∷ []) → OnErr r (later ≡ []) → ((name : List ℕ) → has_key name keys ≡ has_field name (drop few fields))
    → (name : List ℕ) → has_key name keys ≡ has_field name (drop few later)
few_after few fields later field keys (Ok done) early added none are name =
    few_added few name fields field keys early (are name) ∙ ap (λ (l : List RawField). has_field name (drop few l)) (sym added)
few_after few fields later field keys (Err refused) early added none are name =
    are name
    ∙ ap (λ (l : List RawField). has_field name l) (drop_all few fields (omega (arith, early)) ∙ sym (drop_all few [] (omega arith)))
    ∙ ap (λ (l : List RawField). has_field name (drop few l)) (sym none)

-- no field stands behind the last
pub none_behind : (texts : List (Option (List ℕ))) (count at : ℕ) (seen : List RawField) → ArePaired texts → count ≡ length texts → count / 2 ≤ at
    → fields_in texts ≡ seen → None ≡ slice_get seen at
none_behind texts count at seen paired long past view =
    let late : length (fields_in texts) ≤ at = omega (arith, long, past, two_each texts paired) in
    sym (slice_get_past (fields_in texts) at late) ∙ ap (λ (l : List RawField). slice_get l at) view

-- no name stands behind the last field
pub no_name_behind : (texts : List (Option (List ℕ))) (count at : ℕ) (seen : List RawField) → ArePaired texts → count ≡ length texts → count / 2 ≤ at
    → fields_in texts ≡ seen → None ≡ option_map (λ (f : RawField). f.name) (slice_get seen at)
no_name_behind texts count at seen paired long past view =
    ap (λ (o : Option RawField). option_map (λ (f : RawField). f.name) o) (none_behind texts count at seen paired long past view)

-- a name that is read is that of its field
pub name_read : (texts : List (Option (List ℕ))) (at : ℕ) (seen : List RawField) (name : Option (List ℕ)) → ArePaired texts → fields_in texts ≡ seen
    → name ≡ get_or texts (at * 2) None → name ≡ option_map (λ (f : RawField). f.name) (slice_get seen at)
name_read texts at seen name paired view is =
    is ∙ name_at texts at paired ∙ ap (λ (l : List RawField). option_map (λ (f : RawField). f.name) (slice_get l at)) view

no_pair : (name : Option (List ℕ)) → pair_of name None ≡ None
no_pair (Some name) = refl
no_pair None = refl

-- a field without a name or without a value isn't there
pub nameless : (texts : List (Option (List ℕ))) (at : ℕ) (seen : List RawField) → ArePaired texts → fields_in texts ≡ seen
    → None ≡ get_or texts (at * 2) None → None ≡ slice_get seen at
nameless texts at seen paired view is =
    ap (λ (o : Option (List ℕ)). pair_of o (get_or texts (at * 2 + 1) None)) is
    ∙ sym (field_at texts at paired)
    ∙ ap (λ (l : List RawField). slice_get l at) view

pub valueless : (texts : List (Option (List ℕ))) (at : ℕ) (seen : List RawField) → ArePaired texts → fields_in texts ≡ seen
    → None ≡ get_or texts (at * 2 + 1) None → None ≡ slice_get seen at
valueless texts at seen paired view is =
    sym (no_pair (get_or texts (at * 2) None))
    ∙ ap (λ (o : Option (List ℕ)). pair_of (get_or texts (at * 2) None) o) is
    ∙ sym (field_at texts at paired)
    ∙ ap (λ (l : List RawField). slice_get l at) view

-- a field that is read has its name and its value
pub read_field : (texts : List (Option (List ℕ))) (at : ℕ) (seen : List RawField) (name value : List ℕ) → ArePaired texts → fields_in texts ≡ seen
    → Some name ≡ get_or texts (at * 2) None → Some value ≡ get_or texts (at * 2 + 1) None
    → pair_of (Some name) (Some value) ≡ slice_get seen at
read_field texts at seen name value paired view named valued =
    ap (λ (o : Option (List ℕ)). pair_of o (Some value)) named
    ∙ ap (λ (o : Option (List ℕ)). pair_of (get_or texts (at * 2) None) o) valued
    ∙ sym (field_at texts at paired)
    ∙ ap (λ (l : List RawField). slice_get l at) view
