-- Fields in one piece of memory, with each name once.
use Rattle.std.proofs.Common.{arith, ◌≡◌, ℕ, zero, suc, ◌<◌, List, [], ◌∷◌, ◌++◌, Option, None, Some, drop, Result, Ok, Err, get_or, le_refl, length, slice_get, take, refl, sym, ap, subst, ◌∙◌}
use Rattle.std.proofs.Math.ListN.{get_or-append}
use Rattle.std.proofs.lemmas.List.{length-append, take-append-drop, take-append-le, take_all}
use Rattle.std.proofs.lemmas.Option.{get_or_from_slice_get, slice_get-get_or, slice_get_within}
use Rattle.std.specs.Prelude.{OnErr, OnOk}
use Rattle.bv_base.specs.declared.memory.NoMemory.{NoMemory}
use Rattle.bib_read.specs.RawFields.{AreNumbered, RawField, fields_named, no_field, or_nothing}

-- a list with more behind it is the list and what stands behind it
pub with_more : {X : Type 0} (old new : List X) → take (length old) new ≡ old → new ≡ old ++ drop (length old) new
with_more old new grown = sym (take-append-drop (length old) new) ∙ ap (λ l. l ++ drop (length old) new) grown

-- what is put behind a list leaves it
pub without_more : {X : Type 0} (old new more : List X) → new ≡ old ++ more → take (length old) new ≡ old
without_more old new more is =
    ap (λ l. take (length old) l) is
    ∙ take-append-le (length old) old more (le_refl (length old))
    ∙ take_all (length old) old (le_refl (length old))

-- as many fields as numbers
pub as_many : (names : List (List ℕ)) (numbers : List ℕ) (values : List (Option (List ℕ))) → AreNumbered names numbers values
    → length (fields_named names numbers values) ≡ length numbers
as_many names [] [] are = refl
as_many names [] (value ∷ values) are = absurd are
as_many names (number ∷ numbers) [] are = absurd are
as_many names (number ∷ numbers) (value ∷ values) are = ap suc (as_many names numbers values are.1)

-- names that are put behind the others leave the fields
more_names : (names more : List (List ℕ)) (numbers : List ℕ) (values : List (Option (List ℕ))) → AreNumbered names numbers values
    → fields_named (names ++ more) numbers values ≡ fields_named names numbers values
more_names names more [] values are = refl
more_names names more (number ∷ numbers) [] are = absurd are
more_names names more (number ∷ numbers) (value ∷ values) are =
    ap (λ (name : List ℕ). record { name = name; value = or_nothing value } ∷ fields_named (names ++ more) numbers values)
    (get_or-append names more [] number are.0)
    ∙ ap (λ (l : List RawField). record { name = get_or names number []; value = or_nothing value } ∷ l)
    (more_names names more numbers values are.1)

numbered_still : (names more : List (List ℕ)) (numbers : List ℕ) (values : List (Option (List ℕ))) → AreNumbered names numbers values
    → AreNumbered (names ++ more) numbers values
numbered_still names more [] [] are = tt
numbered_still names more [] (value ∷ values) are = absurd are
numbered_still names more (number ∷ numbers) [] are = absurd are
numbered_still names more (number ∷ numbers) (value ∷ values) are =
    (omega (arith, are.0, length-append names more), numbered_still names more numbers values are.1)

-- so they do where the table of names has grown
pub names_grown : (old new : List (List ℕ)) (numbers : List ℕ) (values : List (Option (List ℕ))) → take (length old) new ≡ old
    → AreNumbered old numbers values → fields_named new numbers values ≡ fields_named old numbers values
names_grown old new numbers values grown are =
    ap (λ (names : List (List ℕ)). fields_named names numbers values) (with_more old new grown)
    ∙ more_names old (drop (length old) new) numbers values are

pub numbered_grown : (old new : List (List ℕ)) (numbers : List ℕ) (values : List (Option (List ℕ))) → take (length old) new ≡ old
    → AreNumbered old numbers values → AreNumbered new numbers values
numbered_grown old new numbers values grown are =
    subst (λ (names : List (List ℕ)). AreNumbered names numbers values) (sym (with_more old new grown))
    (numbered_still old (drop (length old) new) numbers values are)

-- a field more
named_added : (names : List (List ℕ)) (numbers : List ℕ) (values : List (Option (List ℕ))) (number : ℕ) (value : List ℕ)
    → AreNumbered names numbers values
    → fields_named names (numbers ++ number ∷ []) (values ++ Some value ∷ [])
    ≡ fields_named names numbers values ++ record { name = get_or names number []; value = value } ∷ []
named_added names [] [] number value are = refl
named_added names [] (one ∷ values) number value are = absurd are
named_added names (one ∷ numbers) [] number value are = absurd are
named_added names (first ∷ numbers) (one ∷ values) number value are =
    ap (λ (l : List RawField). record { name = get_or names first []; value = or_nothing one } ∷ l)
    (named_added names numbers values number value are.1)

number_added : (names : List (List ℕ)) (numbers : List ℕ) (values : List (Option (List ℕ))) (number : ℕ) (value : List ℕ)
    → AreNumbered names numbers values → number < length names
    → AreNumbered names (numbers ++ number ∷ []) (values ++ Some value ∷ [])
number_added names [] [] number value are within = (within, tt)
number_added names [] (one ∷ values) number value are within = absurd are
number_added names (one ∷ numbers) [] number value are within = absurd are
number_added names (first ∷ numbers) (one ∷ values) number value are within =
    (are.0, number_added names numbers values number value are.1 within)

-- a field whose name the table has, and whose number and value are put behind the others
pub field_added : (old new : List (List ℕ)) (numbers later : List ℕ) (values others : List (Option (List ℕ))) (number : ℕ) (name value : List ℕ)
    → take (length old) new ≡ old → slice_get new number ≡ Some name → later ≡ numbers ++ number ∷ [] → others ≡ values ++ Some value ∷ []
    → AreNumbered old numbers values
    → fields_named new later others ≡ fields_named old numbers values ++ record { name = name; value = value } ∷ []
field_added old new numbers later values others number name value grown named numbered valued are =
    ap (λ (l : List ℕ). fields_named new l others) numbered
    ∙ ap (λ (l : List (Option (List ℕ))). fields_named new (numbers ++ number ∷ []) l) valued
    ∙ named_added new numbers values number value (numbered_grown old new numbers values grown are)
    ∙ ap (λ (n : List ℕ). fields_named new numbers values ++ record { name = n; value = value } ∷ [])
    (get_or_from_slice_get new number name [] named)
    ∙ ap (λ (l : List RawField). l ++ record { name = name; value = value } ∷ []) (names_grown old new numbers values grown are)

numbered_added : (old new : List (List ℕ)) (numbers later : List ℕ) (values others : List (Option (List ℕ))) (number : ℕ) (name value : List ℕ)
    → take (length old) new ≡ old → slice_get new number ≡ Some name → later ≡ numbers ++ number ∷ [] → others ≡ values ++ Some value ∷ []
    → AreNumbered old numbers values → AreNumbered new later others
numbered_added old new numbers later values others number name value grown named numbered valued are =
    subst (λ (l : List ℕ). AreNumbered new l others) (sym numbered)
    (subst (λ (l : List (Option (List ℕ))). AreNumbered new (numbers ++ number ∷ []) l) (sym valued)
    (number_added new numbers values number value (numbered_grown old new numbers values grown are)
    (slice_get_within new number name named)))

-- what is so in any case is so where memory was wanting
pub kept : {X : Type 0} (r : Result (Unit {0}) NoMemory) → X → OnErr r X
kept (Ok done) x = tt
kept (Err refused) x = x

-- after a field or none was put behind the others
pub numbered_after : (old new : List (List ℕ)) (numbers later : List ℕ) (values others : List (Option (List ℕ))) (number : ℕ) (name value : List ℕ)
    (r : Result (Unit {0}) NoMemory) → take (length old) new ≡ old → slice_get new number ≡ Some name → AreNumbered old numbers values
    → OnOk r (later ≡ numbers ++ number ∷ []) → OnOk r (others ≡ values ++ Some value ∷ []) → OnErr r (later ≡ numbers) → OnErr r (others ≡ values)
    → AreNumbered new later others
numbered_after old new numbers later values others number name value (Ok done) grown named are numbered valued no_number no_value =
    numbered_added old new numbers later values others number name value grown named numbered valued are
numbered_after old new numbers later values others number name value (Err refused) grown named are numbered valued no_number no_value =
    subst (λ (l : List ℕ). AreNumbered new l others) (sym no_number)
    (subst (λ (l : List (Option (List ℕ))). AreNumbered new numbers l) (sym no_value) (numbered_grown old new numbers values grown are))

pub field_after : (old new : List (List ℕ)) (numbers later : List ℕ) (values others : List (Option (List ℕ))) (number : ℕ) (name value : List ℕ)
    (r : Result (Unit {0}) NoMemory) (seen : List RawField) → take (length old) new ≡ old → slice_get new number ≡ Some name
    → AreNumbered old numbers values → OnOk r (later ≡ numbers ++ number ∷ []) → OnOk r (others ≡ values ++ Some value ∷ [])
    → fields_named old numbers values ≡ seen → OnOk r (fields_named new later others ≡ seen ++ record { name = name; value = value } ∷ [])
field_after old new numbers later values others number name value (Ok done) seen grown named are numbered valued view =
    field_added old new numbers later values others number name value grown named numbered valued are
    ∙ ap (λ (l : List RawField). l ++ record { name = name; value = value } ∷ []) view
field_after old new numbers later values others number name value (Err refused) seen grown named are numbered valued view = tt

pub fields_after : (old new : List (List ℕ)) (numbers later : List ℕ) (values others : List (Option (List ℕ))) (r : Result (Unit {0}) NoMemory)
    (seen : List RawField) → take (length old) new ≡ old → AreNumbered old numbers values → OnErr r (later ≡ numbers) → OnErr r (others ≡ values)
    → fields_named old numbers values ≡ seen → OnErr r (fields_named new later others ≡ seen)
fields_after old new numbers later values others (Ok done) seen grown are no_number no_value view = tt
fields_after old new numbers later values others (Err refused) seen grown are no_number no_value view =
    ap (λ (l : List ℕ). fields_named new l others) no_number
    ∙ ap (λ (l : List (Option (List ℕ))). fields_named new numbers l) no_value
    ∙ names_grown old new numbers values grown are
    ∙ view

-- the name at a place is that of its number
pub name_at : (names : List (List ℕ)) (numbers : List ℕ) (values : List (Option (List ℕ))) (at number : ℕ) → AreNumbered names numbers values
    → slice_get numbers at ≡ Some number → (get_or (fields_named names numbers values) at no_field).name ≡ get_or names number []
name_at names [] values at number are here = absurd (cc)
name_at names (one ∷ numbers) [] at number are here = absurd are
name_at names (one ∷ numbers) (value ∷ values) zero number are here =
    let it : one ≡ number = cc in
    ap (λ (n : ℕ). get_or names n []) it
name_at names (one ∷ numbers) (value ∷ values) (suc at) number are here = name_at names numbers values at number are.1 here

pub no_name_at : (names : List (List ℕ)) (numbers : List ℕ) (values : List (Option (List ℕ))) (at : ℕ) → AreNumbered names numbers values
    → slice_get numbers at ≡ None → (get_or (fields_named names numbers values) at no_field).name ≡ []
no_name_at names [] values at are none = refl
no_name_at names (one ∷ numbers) [] at are none = absurd are
no_name_at names (one ∷ numbers) (value ∷ values) zero are none = absurd (cc)
no_name_at names (one ∷ numbers) (value ∷ values) (suc at) are none = no_name_at names numbers values at are.1 none

-- the value at a place is the text that stands there
pub value_at : (names : List (List ℕ)) (numbers : List ℕ) (values : List (Option (List ℕ))) (at : ℕ) → AreNumbered names numbers values
    → (get_or (fields_named names numbers values) at no_field).value ≡ or_nothing (get_or values at None)
value_at names [] [] at are = refl
value_at names [] (value ∷ values) at are = absurd are
value_at names (one ∷ numbers) [] at are = absurd are
value_at names (one ∷ numbers) (value ∷ values) zero are = refl
value_at names (one ∷ numbers) (value ∷ values) (suc at) are = value_at names numbers values at are.1

-- a field is its name and its value
pub read_field : (fields : List RawField) (at : ℕ) (name value : List ℕ) → at < length fields → name ≡ (get_or fields at no_field).name
    → value ≡ (get_or fields at no_field).value → Some (record { name = name; value = value }) ≡ slice_get fields at
read_field fields at name value within named valued =
    ap (λ (n : List ℕ). Some (record { name = n; value = value })) named
    ∙ ap (λ (v : List ℕ). Some (record { name = (get_or fields at no_field).name; value = v })) valued
    ∙ sym (slice_get-get_or fields at no_field within)
