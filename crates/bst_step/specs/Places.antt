-- The places at which variables and fields stand among those of their sort (docs/MACHINE.md, "How it is run").
use Rattle.std.specs.Prelude.{◌≡◌, ℕ, suc, nat_eq, if◌then◌else◌, List, [], ◌∷◌, map, Option, None, Some, option_map, slice_get}
use Rattle.name_table.specs.declared.names.NameId.{NameId}
use Rattle.bst_meaning.specs.EntryLists.{Entry}

-- the place of the first name with this id
abbrev pub place_of : ℕ → List NameId → Option ℕ
place_of id [] = None
place_of id (name ∷ names) = if nat_eq name.0 id then Some 0 else option_map suc (place_of id names)

-- each name stands at the place that a table has for its id
abbrev pub StandAt : List ℕ → List NameId → Type 0
StandAt places names = (at : ℕ) (name : NameId) → slice_get names at ≡ Some name → slice_get places name.0 ≡ Some at

-- the fields of each entry of a list stand at their places
abbrev pub FieldsStandAt : List ℕ → List Entry → Type 0
FieldsStandAt places entries = (at : ℕ) (entry : Entry) → slice_get entries at ≡ Some entry → StandAt places (map (λ f. f.name) entry.fields)
