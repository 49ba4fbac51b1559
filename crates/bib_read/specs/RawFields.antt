-- The fields of an entry as they stand in its database, and how they stand in memory (docs/DATA.md, "Entries").
use Rattle.std.specs.Prelude.{ℕ, ◌<◌, List, [], ◌∷◌, Option, None, Some, get_or, length}

-- a field of an entry: its lowered name and its value
pub record RawField : Type 0 where
  pub name : List ℕ
  pub value : List ℕ

-- what is read where no field stands
abbrev pub no_field : RawField
no_field = record { name = []; value = [] }

-- the fields whose names and values stand one after the other
abbrev pub fields_in : List (Option (List ℕ)) → List RawField
fields_in [] = []
fields_in (first ∷ []) = []
fields_in (Some name ∷ Some value ∷ texts) = record { name = name; value = value } ∷ fields_in texts
fields_in (Some name ∷ None ∷ texts) = []
fields_in (None ∷ second ∷ texts) = []

-- behind each name stands a value
abbrev pub ArePaired : List (Option (List ℕ)) → Type 0
ArePaired [] = Unit {0}
ArePaired (first ∷ []) = ⊥
ArePaired (Some name ∷ Some value ∷ texts) = ArePaired texts
ArePaired (Some name ∷ None ∷ texts) = ⊥
ArePaired (None ∷ second ∷ texts) = ⊥

-- a text that is there, and nothing where it isn't
abbrev pub or_nothing : Option (List ℕ) → List ℕ
or_nothing (Some text) = text
or_nothing None = []

-- the fields with these values, whose names have these numbers
abbrev pub fields_named : List (List ℕ) → List ℕ → List (Option (List ℕ)) → List RawField
fields_named names [] values = []
fields_named names (number ∷ numbers) [] = []
fields_named names (number ∷ numbers) (value ∷ values) =
    record { name = get_or names number []; value = or_nothing value } ∷ fields_named names numbers values

-- each number is that of a name, and has its value
abbrev pub AreNumbered : List (List ℕ) → List ℕ → List (Option (List ℕ)) → Type 0
AreNumbered names [] [] = Unit {0}
AreNumbered names [] (value ∷ values) = ⊥
AreNumbered names (number ∷ numbers) [] = ⊥
AreNumbered names (number ∷ numbers) (value ∷ values) = (number < length names) × AreNumbered names numbers values
