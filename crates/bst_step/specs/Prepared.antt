-- What a style is prepared with (docs/MACHINE.md, "How it is run").
use Rattle.std.specs.Prelude.{◌≡◌, ℕ, ◌<◌, Bool, false, ◌&&◌, List, get_or, length, nat_eq}
use Rattle.std.specs.Option.{option_map_or}
use Rattle.name_table.specs.declared.names.Kind.{Kind}
use Rattle.name_table.specs.declared.names.NameId.{NameId}
use Rattle.name_table.specs.declared.style.CommandAt.{CommandAt}
use Rattle.name_table.specs.Names.{id_of, text_at}
use Rattle.name_table.specs.TypeTarget.{stands_before_read}

-- the bytes of the name with an id are found under this id
abbrev pub finds_itself : NameId → List (List ℕ × Kind) → Bool
finds_itself id names =
    option_map_or (λ name. option_map_or (λ found. nat_eq found.0 id.0) (id_of name names) false) (text_at id names) false

-- by the id of a name, whether a FUNCTION command of it stands before READ among these, and its bytes are found under this id
abbrev pub AreDefined : List Bool → List (List ℕ × Kind) → List CommandAt → Type 0
AreDefined table names commands = (id : ℕ) (other : Bool) → id < length table
    → get_or table id other ≡ (stands_before_read (record { 0 = id }) commands && finds_itself (record { 0 = id }) names)
