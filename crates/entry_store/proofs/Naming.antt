-- Fields with their names.
use Rattle.std.proofs.Common.{◌≡◌, ℕ, zero, suc, ◌+◌, ◌<◌, nat_eq, nat_lt, Bool, true, false, arith, refl, ap, ◌∙◌, List, [], ◌∷◌, length, map, slice_get, take, Option, None, Some}
use Rattle.std.proofs.lemmas.Bool.Decides.{nat_tests}
use Rattle.std.specs.Option.{option_map}
use Rattle.std.specs.Prelude.{if◌then◌else◌}
use Rattle.name_table.specs.declared.names.NameId.{NameId}
use Rattle.bst_meaning.specs.FieldValues.{FieldValue}
use Rattle.entry_store.specs.NumberedTexts.{Numbered, text_under, under_places}
use Rattle.entry_store.specs.PackedEntries.{fields_from, named}

abbrev pub at : NameId → Option (List ℕ) → FieldValue
at name value = record { name = name; value = value }

abbrev under : ℕ → Option (List ℕ) → Numbered
under number text = record { number = number; text = text }

pub names_are : (place : ℕ) (names : List NameId) (texts : List Numbered) → map (λ f. f.name) (fields_from place names texts) ≡ names
names_are place [] texts = refl
names_are place (name ∷ names) texts = ap (λ (l : List NameId). name ∷ l) (names_are (suc place) names texts)

-- the field at a place has the name that stands there, and the value under that place
pub field_at : (place : ℕ) (names : List NameId) (texts : List Numbered) (i : ℕ)
    → slice_get (fields_from place names texts) i ≡ option_map (λ name. at name (text_under (place + i) texts)) (slice_get names i)
field_at place [] texts i = refl
field_at place (name ∷ names) texts zero =
    let same : place ≡ place + zero = omega arith in
    ap (λ (n : ℕ). Some (at name (text_under n texts))) same
field_at place (name ∷ names) texts (suc i) =
    let same : suc place + i ≡ place + suc i = omega arith in
    field_at (suc place) names texts i
    ∙ ap (λ (n : ℕ). option_map (λ name. at name (text_under n texts)) (slice_get names i)) same

-- what tests say of a number and a greater one
apart : (m n : ℕ) → m < n → (nat_eq m n ≡ false) × (nat_eq n m ≡ false) × (nat_lt m n ≡ true) × (nat_lt n m ≡ false)
apart m n less = (grind (arith, nat_tests), grind (arith, nat_tests), grind (arith, nat_tests), grind (arith, nat_tests))

-- the first text decides where its number is the one that is sought
pub first_is : (number : ℕ) (text : Option (List ℕ)) (more : List Numbered) → text_under number (under number text ∷ more) ≡ text
first_is number text more =
    let same : nat_eq number number ≡ true = grind (arith, nat_tests) in
    ap (λ (b : Bool). if b then text else (if nat_lt number number then None else text_under number more)) same

-- none has a number where the first is beyond it
pub first_is_beyond : (number other : ℕ) (text : Option (List ℕ)) (more : List Numbered) → number < other
    → text_under number (under other text ∷ more) ≡ None
first_is_beyond number other text more less =
    let told = apart number other less in
    ap (λ (b : Bool). if b then text else (if nat_lt number other then None else text_under number more)) told.1
    ∙ ap (λ (b : Bool). if b then None else text_under number more) told.2

-- the first is passed over where its number is below
pub first_is_below : (number other : ℕ) (text : Option (List ℕ)) (more : List Numbered) → other < number
    → text_under number (under other text ∷ more) ≡ text_under number more
first_is_below number other text more less =
    let told = apart other number less in
    ap (λ (b : Bool). if b then text else (if nat_lt number other then None else text_under number more)) told.0
    ∙ ap (λ (b : Bool). if b then None else text_under number more) told.3

-- values from a place on have none under a number below it
none_under : (number place : ℕ) (values : List (Option (List ℕ))) → number < place → text_under number (under_places place values) ≡ None
none_under number place [] less = refl
none_under number place (None ∷ values) less = none_under number (suc place) values (omega (arith, less))
none_under number place (Some value ∷ values) less = first_is_beyond number place (Some value) (under_places (suc place) values) less

-- the first of the values is the one under its place
first_value : (place : ℕ) (value : Option (List ℕ)) (values : List (Option (List ℕ)))
    → text_under place (under_places place (value ∷ values)) ≡ value
first_value place None values = none_under place (suc place) values (omega arith)
first_value place (Some value) values = first_is place (Some value) (under_places (suc place) values)

-- fields behind a text's number pass it over
passed_over : (number place : ℕ) (names : List NameId) (text : Option (List ℕ)) (more : List Numbered) → number < place
    → fields_from place names (under number text ∷ more) ≡ fields_from place names more
passed_over number place [] text more less = refl
passed_over number place (name ∷ names) text more less =
    ap (λ (v : Option (List ℕ)). at name v ∷ fields_from (suc place) names (under number text ∷ more)) (first_is_below place number text more less)
    ∙ ap (λ (l : List FieldValue). at name (text_under place more) ∷ l) (passed_over number (suc place) names text more (omega (arith, less)))

rest_alone : (place : ℕ) (names : List NameId) (value : Option (List ℕ)) (values : List (Option (List ℕ)))
    → fields_from (suc place) names (under_places place (value ∷ values)) ≡ fields_from (suc place) names (under_places (suc place) values)
rest_alone place names None values = refl
rest_alone place names (Some value) values =
    passed_over place (suc place) names (Some value) (under_places (suc place) values) (omega arith)

-- the fields with no values
all_missing : (place : ℕ) (names : List NameId) → fields_from place names [] ≡ named names []
all_missing place [] = refl
all_missing place (name ∷ names) = ap (λ (l : List FieldValue). at name None ∷ l) (all_missing (suc place) names)

-- the fields whose values stand under their places are those with these values
pub named_from : (place : ℕ) (names : List NameId) (values : List (Option (List ℕ)))
    → fields_from place names (under_places place (take (length names) values)) ≡ named names values
named_from place [] values = refl
named_from place (name ∷ names) [] = all_missing place (name ∷ names)
named_from place (name ∷ names) (value ∷ values) =
    let front : List (Option (List ℕ)) = take (length names) values in
    ap (λ (v : Option (List ℕ)). at name v ∷ fields_from (suc place) names (under_places place (value ∷ front))) (first_value place value front)
    ∙ ap (λ (l : List FieldValue). at name value ∷ l) (rest_alone place names value front ∙ named_from (suc place) names values)
