-- What stands in a list under the id of a name (docs/MACHINE.md, "Configurations").
use Rattle.std.specs.Prelude.{ℕ, nat_eq, if◌then◌else◌, List, [], ◌∷◌, Option, None, Some}
use Rattle.name_table.specs.declared.names.NameId.{NameId}

-- what is seen of the first with this id
abbrev pub seen_by_id : {A B : Type 0} → (A → NameId) → (A → B) → ℕ → List A → Option B
seen_by_id named seen id [] = None
seen_by_id named seen id (first ∷ rest) = if nat_eq (named first).0 id then Some (seen first) else seen_by_id named seen id rest

-- a list in which another takes the place of the first with its id
abbrev pub replaced_by_id : {A : Type 0} → (A → NameId) → A → List A → List A
replaced_by_id named new [] = []
replaced_by_id named new (first ∷ rest) =
    if nat_eq (named first).0 (named new).0 then new ∷ rest else first ∷ replaced_by_id named new rest
