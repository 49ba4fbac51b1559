-- Fields stand at their places, and are found there.
use Rattle.std.proofs.Common.{◌≡◌, ℕ, zero, suc, ◌+◌, ◌<◌, ◌≤◌, ◌⊎◌, inl, inr, add-one, refl, sym, ap, subst, ◌∙◌, Bool, cond, List, [], ◌∷◌, ◌++◌, drop, get_or, length, take, slice_get, Option, None, Some, arith}
use Rattle.std.specs.Option.{option_map}
use Rattle.std.proofs.lemmas.Bool.{cases_lt, eq-eqb, ne_eqb}
use Rattle.std.proofs.lemmas.List.{append-nil, drop_more, length-append}
use Rattle.std.proofs.lemmas.Option.{get_or_from_slice_get, slice_get-get_or, slice_get-map, slice_get_within}
use Rattle.name_table.specs.declared.names.NameId.{NameId}
use Rattle.name_table.specs.declared.names.Kind.{Kind}
use Rattle.name_table.specs.declared.names.Kind.TheVariants.{Field}
use Rattle.name_table.specs.Names.{kind_at}
use Rattle.bst_meaning.specs.EntryLists.{Entry}
use Rattle.bst_meaning.specs.FieldValues.{FieldValue}
use Rattle.bst_meaning.specs.declared.value.Value.TheVariants.{Missing}
use Rattle.bst_meaning.specs.Entries.{field_ids_at, field_ids_from}
use Rattle.bst_meaning.specs.Machine.{field_in, field_value}
use Rattle.bst_step.specs.Places.{FieldsStandAt, StandAt, place_of}
use Rattle.bst_step.proofs.PlaceLookups.{another_stands_there, at_place, field_names, field_nowhere, field_there, no_place}
use Rattle.bst_step.proofs.PlacesMade.{longer_table, name_more}

-- the names before a place stand at their places
abbrev pub StandBelow : ℕ → List ℕ → List NameId → Type 0
StandBelow end places names = (at : ℕ) (name : NameId) → at < end → slice_get names at ≡ Some name → slice_get places name.0 ≡ Some at

named : (fields : List FieldValue) (at : ℕ) (f : FieldValue) → slice_get fields at ≡ Some f → slice_get (field_names fields) at ≡ Some f.name
named fields at f here = slice_get-map (λ (g : FieldValue). g.name) fields at ∙ ap (λ (o : Option FieldValue). option_map (λ (g : FieldValue). g.name) o) here

pub none_below : (places : List ℕ) (names : List NameId) → StandBelow 0 places names
none_below places names at name early here = absurd (omega (arith, early))

-- one name more stands at its place
pub one_more_stands : (places : List ℕ) (names : List NameId) (at : ℕ) (n : NameId) → StandBelow at places names
    → slice_get names at ≡ Some n → slice_get places n.0 ≡ Some at → StandBelow (at + 1) places names
one_more_stands places names at n below here has k name early there =
    elim (cases_lt k at) [
      | inl before ↦ below k name before there
      | inr behind ↦
          let same : k ≡ at = omega (arith, early, behind) in
          let is : Some name ≡ Some n = sym there ∙ ap (λ (i : ℕ). slice_get names i) same ∙ here in
          let same_name : name ≡ n = cc in
          ap (λ (m : NameId). slice_get places m.0) same_name ∙ has ∙ ap (λ (i : ℕ). Some i) (sym same)
    ]

-- one name more that is read stands at its place
pub one_more_read : (places : List ℕ) (names : List NameId) (at place : ℕ) (d : NameId) → StandBelow at places names → at < length names
    → slice_get places (get_or names at d).0 ≡ Some place → place ≡ at → StandBelow (at + 1) places names
one_more_read places names at place d below within has same =
    one_more_stands places names at (get_or names at d) below (slice_get-get_or names at d within) (has ∙ ap (λ (n : ℕ). Some n) same)

-- all names stand at their places
pub all_below : (places : List ℕ) (names : List NameId) (end : ℕ) → length names ≤ end → StandBelow end places names → StandAt places names
all_below places names end all below at name here = below at name (omega (arith, all, slice_get_within names at name here)) here

-- the fields of the entries before a place stand at their places
abbrev pub FieldsStandBelow : ℕ → List ℕ → List Entry → Type 0
FieldsStandBelow end places entries = (at : ℕ) (entry : Entry) → at < end → slice_get entries at ≡ Some entry → StandAt places (field_names entry.fields)

pub no_entry_below : (places : List ℕ) (entries : List Entry) → FieldsStandBelow 0 places entries
no_entry_below places entries at entry early here = absurd (omega (arith, early))

pub one_more_entry : (places : List ℕ) (entries : List Entry) (at : ℕ) (e : Entry) → FieldsStandBelow at places entries
    → slice_get entries at ≡ Some e → StandAt places (field_names e.fields) → FieldsStandBelow (at + 1) places entries
one_more_entry places entries at e below here stand k entry early there =
    elim (cases_lt k at) [
      | inl before ↦ below k entry before there
      | inr behind ↦
          let same : k ≡ at = omega (arith, early, behind) in
          let is : Some entry ≡ Some e = sym there ∙ ap (λ (i : ℕ). slice_get entries i) same ∙ here in
          let same_entry : e ≡ entry = cc in
          subst (λ (x : Entry). StandAt places (field_names x.fields)) same_entry stand
    ]

pub all_entries_below : (places : List ℕ) (entries : List Entry) (end : ℕ) → length entries ≤ end → FieldsStandBelow end places entries
    → FieldsStandAt places entries
all_entries_below places entries end all below at entry here = below at entry (omega (arith, all, slice_get_within entries at entry here)) here

-- a table has no place for a name
pub field_placeless : (places : List ℕ) (fields : List FieldValue) (name : NameId) → StandAt places (field_names fields)
    → slice_get places name.0 ≡ None → Missing name ≡ field_in name fields
field_placeless places fields name stand none = sym (field_nowhere name fields (no_place places (field_names fields) name.0 stand none))

-- the field at the place that a table has is the one of the name
pub field_stands : (places : List ℕ) (fields : List FieldValue) (name : NameId) (at : ℕ) (f : FieldValue) → StandAt places (field_names fields)
    → slice_get fields at ≡ Some f → f.name.0 ≡ name.0 → field_value name f.value ≡ field_in name fields
field_stands places fields name at f stand here is =
    let place : place_of name.0 (field_names fields) ≡ Some at =
    ap (λ (id : ℕ). place_of id (field_names fields)) (sym is) ∙ at_place places (field_names fields) at f.name stand (named fields at f here) in
    sym (field_there name fields at f place here)

-- at the place that a table has no field of the name stands
nowhere : (places : List ℕ) (fields : List FieldValue) (name : NameId) (at : ℕ) → StandAt places (field_names fields)
    → slice_get places name.0 ≡ Some at → (o : Option FieldValue) → slice_get fields at ≡ o → ((f : FieldValue) → o ≡ Some f → f.name.0 ≡ name.0 → ⊥)
    → Missing name ≡ field_in name fields
nowhere places fields name at stand has o is other =
    sym (field_nowhere name fields (another_stands_there (λ (g : FieldValue). g.name) places fields name.0 at o stand has is other))

-- another field stands there
pub another_field : (places : List ℕ) (fields : List FieldValue) (name : NameId) (at : ℕ) (f : FieldValue) → StandAt places (field_names fields)
    → slice_get places name.0 ≡ Some at → slice_get fields at ≡ Some f → (f.name.0 ≡ name.0 → ⊥) → Missing name ≡ field_in name fields
another_field places fields name at f stand has here other =
    nowhere places fields name at stand has (Some f) here
    (λ g same is. let it : f ≡ g = cc in other (ap (λ (h : FieldValue). h.name.0) it ∙ is))

-- none stands there
pub no_field : (places : List ℕ) (fields : List FieldValue) (name : NameId) (at : ℕ) → StandAt places (field_names fields)
    → slice_get places name.0 ≡ Some at → slice_get fields at ≡ None → Missing name ≡ field_in name fields
no_field places fields name at stand has none = nowhere places fields name at stand has None none (λ g same is. absurd (cc))

field_last : (at : ℕ) (kind : Kind) (ids more : List NameId) → field_ids_at at kind (ids ++ more) ≡ field_ids_at at kind ids ++ more
field_last at Field ids more = refl
field_last at _ ids more = refl

next_field : (names : List (List ℕ × Kind)) (i at : ℕ) (k : Kind) → kind_at (record { 0 = i }) names ≡ Some k
    → field_ids_from at (take (suc i) names) ≡ field_ids_from at (take i names) ++ field_ids_at (at + i) k []
next_field [] i at k e = absurd (cc)
next_field (name ∷ names) zero at k e =
    let same : name.1 ≡ k = cc in
    let here : at ≡ at + 0 = omega arith in
    ap (λ (kind : Kind). field_ids_at at kind []) same ∙ ap (λ (n : ℕ). field_ids_at n k []) here
next_field (name ∷ names) (suc i) at k e =
    let there : at + 1 + i ≡ at + suc i = omega arith in
    ap (λ (ids : List NameId). field_ids_at at name.1 ids)
    (next_field names i (at + 1) k e ∙ ap (λ (n : ℕ). field_ids_from (at + 1) (take i names) ++ field_ids_at n k []) there)
    ∙ field_last at name.1 (field_ids_from (at + 1) (take i names)) (field_ids_at (at + suc i) k [])

-- the fields among the names so far, and one name more
pub fields_so_far : (names : List (List ℕ × Kind)) (id : ℕ) (k : Kind) → kind_at (record { 0 = id }) names ≡ Some k
    → field_ids_from 0 (take (id + 1) names) ≡ field_ids_from 0 (take id names) ++ field_ids_at id k []
fields_so_far names id k e =
    let here : 0 + id ≡ id = omega arith in
    ap (λ (n : ℕ). field_ids_from 0 (take n names)) (add-one id)
    ∙ next_field names id 0 k e
    ∙ ap (λ (n : ℕ). field_ids_from 0 (take id names) ++ field_ids_at n k []) here

one_field : (id : ℕ) (kind : Kind) → (field_ids_at id kind [] ≡ []) ⊎ (field_ids_at id kind [] ≡ record { 0 = id } ∷ [])
one_field id Field = inr refl
one_field id _ = inl refl

-- the table after a name of a kind
pub field_place_stands : (places more : List ℕ) (place id : ℕ) (kind : Kind) (names : List (List ℕ × Kind)) → more ≡ places ++ place ∷ []
    → place ≡ length (field_ids_from 0 (take id names)) → length places ≡ id → StandAt places (field_ids_from 0 (take id names))
    → kind_at (record { 0 = id }) names ≡ Some kind → StandAt more (field_ids_from 0 (take (id + 1) names))
field_place_stands places more place id kind names is next long stand has =
    subst (λ (l : List ℕ). StandAt l (field_ids_from 0 (take (id + 1) names))) (sym (is ∙ ap (λ (n : ℕ). places ++ n ∷ []) next))
    (subst (λ (l : List NameId). StandAt (places ++ length (field_ids_from 0 (take id names)) ∷ []) l) (sym (fields_so_far names id kind has)) (by (one_field id kind)))
  where
    by : (field_ids_at id kind [] ≡ []) ⊎ (field_ids_at id kind [] ≡ record { 0 = id } ∷ [])
        → StandAt (places ++ length (field_ids_from 0 (take id names)) ∷ []) (field_ids_from 0 (take id names) ++ field_ids_at id kind [])
    by (inl none) =
        let same : field_ids_from 0 (take id names) ≡ field_ids_from 0 (take id names) ++ field_ids_at id kind [] =
        sym (append-nil (field_ids_from 0 (take id names))) ∙ ap (λ (l : List NameId). field_ids_from 0 (take id names) ++ l) (sym none) in
        subst (λ (l : List NameId). StandAt (places ++ length (field_ids_from 0 (take id names)) ∷ []) l) same
        (longer_table places (length (field_ids_from 0 (take id names))) (field_ids_from 0 (take id names)) stand)
    by (inr one) =
        subst (λ (l : List NameId). StandAt (places ++ length (field_ids_from 0 (take id names)) ∷ []) l)
        (ap (λ (l : List NameId). field_ids_from 0 (take id names) ++ l) (sym one))
        (name_more places (field_ids_from 0 (take id names)) id long stand)

-- the number of fields after a name of a kind
pub fields_counted : (names : List (List ℕ × Kind)) (fields more id : ℕ) (kind : Kind) → fields ≡ length (field_ids_from 0 (take id names))
    → more ≡ length (field_ids_at id kind []) → kind_at (record { 0 = id }) names ≡ Some kind
    → fields + more ≡ length (field_ids_from 0 (take (id + 1) names))
fields_counted names fields more id kind so_far one has =
    ap (λ (n : ℕ). n + more) so_far
    ∙ ap (λ (n : ℕ). length (field_ids_from 0 (take id names)) + n) one
    ∙ sym (length-append (field_ids_from 0 (take id names)) (field_ids_at id kind []))
    ∙ ap (λ (l : List NameId). length l) (sym (fields_so_far names id kind has))

-- what stands at a place, with what is left behind it
pub drop_read : {A : Type 0} (xs : List A) (at : ℕ) (x : A) → slice_get xs at ≡ Some x → drop at xs ≡ x ∷ drop (at + 1) xs
drop_read xs at x here =
    drop_more xs at x (slice_get_within xs at x here) ∙ ap (λ y. y ∷ drop (at + 1) xs) (get_or_from_slice_get xs at x x here)

-- a field of the name, where none before it has the name
pub among_found : (name : NameId) (fields : List FieldValue) (at : ℕ) (f : FieldValue) → field_in name (drop at fields) ≡ field_in name fields
    → slice_get fields at ≡ Some f → f.name.0 ≡ name.0 → field_value name f.value ≡ field_in name fields
among_found name fields at f left here is =
    ap (λ (t : Bool). cond t (field_value name f.value) (field_in name (drop (at + 1) fields))) (sym (eq-eqb f.name.0 name.0 is))
    ∙ ap (λ (l : List FieldValue). field_in name l) (sym (drop_read fields at f here))
    ∙ left

-- another field
pub among_next : (name : NameId) (fields : List FieldValue) (at : ℕ) (f : FieldValue) → field_in name (drop at fields) ≡ field_in name fields
    → slice_get fields at ≡ Some f → (f.name.0 ≡ name.0 → ⊥) → field_in name (drop (at + 1) fields) ≡ field_in name fields
among_next name fields at f left here other =
    ap (λ (t : Bool). cond t (field_value name f.value) (field_in name (drop (at + 1) fields))) (sym (ne_eqb f.name.0 name.0 other))
    ∙ ap (λ (l : List FieldValue). field_in name l) (sym (drop_read fields at f here))
    ∙ left
