-- What stands at its place is found there.
use Rattle.std.proofs.Common.{◌≡◌, ℕ, zero, suc, refl, sym, ap, ◌∙◌, Bool, true, false, cond, nat_eq, List, [], ◌∷◌, map, slice_get, Option, None, Some}
use Rattle.std.specs.Option.{option_map}
use Rattle.std.proofs.lemmas.Bool.{eqb-true, eq-eqb}
use Rattle.std.proofs.lemmas.Option.{slice_get-map}
use Rattle.name_table.specs.declared.names.NameId.{NameId}
use Rattle.bst_meaning.specs.FieldValues.{FieldValue}
use Rattle.bst_meaning.specs.declared.value.Value.TheVariants.{Missing}
use Rattle.bst_meaning.specs.Machine.{field_in, field_value}
use Rattle.bst_step.specs.Places.{StandAt, place_of}

-- the first with an id stands at the place of the id
record Stands (id at : ℕ) (names : List NameId) : Type 0 where
  name : NameId
  here : slice_get names at ≡ Some name
  named : name.0 ≡ id

-- one name more in front
stands_later : (id k at : ℕ) (first : NameId) (names : List NameId) → suc k ≡ at → Stands id k names → Stands id at (first ∷ names)
stands_later id k at first names same later = record {
  name = later.name;
  here = ap (λ (n : ℕ). slice_get (first ∷ names) n) (sym same) ∙ later.here;
  named = later.named;
}

place_found : (id : ℕ) (names : List NameId) (at : ℕ) → place_of id names ≡ Some at → Stands id at names
place_found id [] at e = absurd (cc)
place_found id (name ∷ names) at e = by (nat_eq name.0 id) refl (place_of id names) (λ k found. place_found id names k found) refl e
  where
    by : (t : Bool) → nat_eq name.0 id ≡ t → (o : Option ℕ) → ((k : ℕ) → place_of id names ≡ Some k → Stands id k names) → place_of id names ≡ o
        → cond t (Some 0) (option_map suc o) ≡ Some at → Stands id at (name ∷ names)
    by true is o later found e =
        let same : 0 ≡ at = cc in
        record { name = name; here = ap (λ (k : ℕ). slice_get (name ∷ names) k) (sym same); named = eqb-true name.0 id is }
    by false other None later found e = absurd (cc)
    by false other (Some k) later found e =
        let same : suc k ≡ at = cc in stands_later id k at name names same (later k found)

-- where the first with an id has no place, none has the id
none_stands : (id : ℕ) (names : List NameId) (at : ℕ) → place_of id names ≡ None → Stands id at names → ⊥
none_stands id [] at e there = let h = there.here in absurd (cc)
none_stands id (name ∷ names) zero e there =
    let h = there.here in
    let same : name ≡ there.name = cc in
    let is : nat_eq name.0 id ≡ true = eq-eqb name.0 id (ap (λ (n : NameId). n.0) same ∙ there.named) in
    by (nat_eq name.0 id) is e
  where
    by : (t : Bool) → t ≡ true → cond t (Some 0) (option_map suc (place_of id names)) ≡ None → ⊥
    by true is e = absurd (cc)
    by false is e = absurd (cc)
none_stands id (name ∷ names) (suc at) e there =
    by (nat_eq name.0 id) (place_of id names) (λ none. none_stands id names at none (record { name = there.name; here = there.here; named = there.named })) refl e
  where
    by : (t : Bool) (o : Option ℕ) → (place_of id names ≡ None → ⊥) → place_of id names ≡ o → cond t (Some 0) (option_map suc o) ≡ None → ⊥
    by true o later is e = absurd (cc)
    by false (Some k) later is e = absurd (cc)
    by false None later is e = later is

-- a table has the place of the first with an id
pub table_has : (places : List ℕ) (names : List NameId) (id at : ℕ) → StandAt places names → place_of id names ≡ Some at → slice_get places id ≡ Some at
table_has places names id at stand e =
    let there : Stands id at names = place_found id names at e in
    ap (λ (k : ℕ). slice_get places k) (sym there.named) ∙ stand at there.name there.here

-- what a table has no place for isn't there
pub no_place : (places : List ℕ) (names : List NameId) (id : ℕ) → StandAt places names → slice_get places id ≡ None → place_of id names ≡ None
no_place places names id stand none = by (place_of id names) refl
  where
    by : (o : Option ℕ) → place_of id names ≡ o → o ≡ None
    by None is = refl
    by (Some at) is = let has : slice_get places id ≡ Some at = table_has places names id at stand is in absurd (cc)

-- a name at its place is the first with its id
pub at_place : (places : List ℕ) (names : List NameId) (at : ℕ) (name : NameId) → StandAt places names → slice_get names at ≡ Some name
    → place_of name.0 names ≡ Some at
at_place places names at name stand here = by (place_of name.0 names) refl
  where
    by : (o : Option ℕ) → place_of name.0 names ≡ o → o ≡ Some at
    by None is = absurd (none_stands name.0 names at is (record { name = name; here = here; named = refl }))
    by (Some k) is =
        let has : slice_get places name.0 ≡ Some k = table_has places names name.0 k stand is in
        let also : slice_get places name.0 ≡ Some at = stand at name here in
        cc

-- where another name stands at the place, or none, the id isn't there
pub another_there : (places : List ℕ) (names : List NameId) (id at : ℕ) → StandAt places names → slice_get places id ≡ Some at
    → ((name : NameId) → slice_get names at ≡ Some name → name.0 ≡ id → ⊥) → place_of id names ≡ None
another_there places names id at stand has other = by (place_of id names) refl
  where
    by : (o : Option ℕ) → place_of id names ≡ o → o ≡ None
    by None is = refl
    by (Some k) is =
        let there : Stands id k names = place_found id names k is in
        let also : slice_get places id ≡ Some k = table_has places names id k stand is in
        let same : at ≡ k = cc in
        absurd (other there.name (ap (λ (n : ℕ). slice_get names n) same ∙ there.here) there.named)

-- where a thing of another name stands at the place, or none, no thing of the id does
pub another_stands_there : {X : Type 0} (named : X → NameId) (places : List ℕ) (things : List X) (id at : ℕ) (o : Option X) → StandAt places (map named things)
    → slice_get places id ≡ Some at → slice_get things at ≡ o → ((x : X) → o ≡ Some x → (named x).0 ≡ id → ⊥) → place_of id (map named things) ≡ None
another_stands_there {X} named places things id at o stand has is other =
    another_there places (map named things) id at stand has
    (λ it here. by it o other (sym (ap (λ (p : Option X). option_map named p) is) ∙ sym (slice_get-map named things at) ∙ here))
  where
    by : (it : NameId) (o : Option X) → ((x : X) → o ≡ Some x → (named x).0 ≡ id → ⊥) → option_map named o ≡ Some it → it.0 ≡ id → ⊥
    by it None other e called = absurd (cc)
    by it (Some x) other e called = let same : named x ≡ it = cc in other x refl (ap (λ (n : NameId). n.0) same ∙ called)

-- the names of the fields of an entry
abbrev pub field_names : List FieldValue → List NameId
field_names fields = map (λ f. f.name) fields

-- the field at a place
pub field_there : (name : NameId) (fields : List FieldValue) (at : ℕ) (f : FieldValue) → place_of name.0 (field_names fields) ≡ Some at
    → slice_get fields at ≡ Some f → field_in name fields ≡ field_value name f.value
field_there name [] at f e here = absurd (cc)
field_there name (first ∷ fields) at f e here =
    by (nat_eq first.name.0 name.0) (place_of name.0 (field_names fields)) refl (λ k. field_there name fields k f) e
  where
    by : (t : Bool) (o : Option ℕ) → place_of name.0 (field_names fields) ≡ o
        → ((k : ℕ) → place_of name.0 (field_names fields) ≡ Some k → slice_get fields k ≡ Some f → field_in name fields ≡ field_value name f.value)
        → cond t (Some 0) (option_map suc o) ≡ Some at
        → cond t (field_value name first.value) (field_in name fields) ≡ field_value name f.value
    by true o is later e =
        let same : 0 ≡ at = cc in
        let it : Some first ≡ Some f = ap (λ (k : ℕ). slice_get (first ∷ fields) k) same ∙ here in
        let first_is : first ≡ f = cc in
        ap (λ (g : FieldValue). field_value name g.value) first_is
    by false None is later e = absurd (cc)
    by false (Some k) is later e =
        let same : suc k ≡ at = cc in later k is (ap (λ (n : ℕ). slice_get (first ∷ fields) n) same ∙ here)

pub field_nowhere : (name : NameId) (fields : List FieldValue) → place_of name.0 (field_names fields) ≡ None → field_in name fields ≡ Missing name
field_nowhere name [] e = refl
field_nowhere name (first ∷ fields) e =
    by (nat_eq first.name.0 name.0) (place_of name.0 (field_names fields)) refl (field_nowhere name fields) e
  where
    by : (t : Bool) (o : Option ℕ) → place_of name.0 (field_names fields) ≡ o
        → (place_of name.0 (field_names fields) ≡ None → field_in name fields ≡ Missing name) → cond t (Some 0) (option_map suc o) ≡ None
        → cond t (field_value name first.value) (field_in name fields) ≡ Missing name
    by true o is later e = absurd (cc)
    by false None is later e = later is
    by false (Some k) is later e = absurd (cc)
