-- What `call.type$` enters for an entry's type (docs/LANGUAGE.md, "Types of entries").
use Rattle.std.specs.Prelude.{ℕ, Bool, true, false, ◌&&◌, ◌||◌, List, [], ◌∷◌, Option, None, Some, codes, nat_eq, if◌then◌else◌}
use Rattle.std.specs.Option.{option_and_then, option_map_or}
use Rattle.name_table.specs.declared.names.NameId.{NameId}
use Rattle.name_table.specs.declared.style.Style.{Style}
use Rattle.name_table.specs.declared.style.CommandAt.{CommandAt}
use Rattle.name_table.specs.declared.style.Command.{Command}
use Rattle.name_table.specs.declared.style.Command.TheVariants.{Function, Read}
use Rattle.name_table.specs.declared.style.TypeTarget.{TypeTarget}
use Rattle.name_table.specs.declared.style.TypeTarget.TheVariants.{Function as FunctionTarget, Default, Skip}
use Rattle.name_table.specs.Names.{id_of}

-- the command defines the function with this id
abbrev pub is_function : NameId → Command → Bool
is_function id (Function other) = nat_eq id.0 other.0
is_function id _ = false

-- the command is READ
abbrev pub is_read : Command → Bool
is_read Read = true
is_read _ = false

-- a READ command is among these
abbrev pub has_read : List CommandAt → Bool
has_read [] = false
has_read (first ∷ rest) = is_read first.command || has_read rest

-- a FUNCTION command of this name stands before a READ command
abbrev pub stands_before_read : NameId → List CommandAt → Bool
stands_before_read id [] = false
stands_before_read id (first ∷ rest) =
    (is_function id first.command && has_read rest) || stands_before_read id rest

-- the function that has this name and stands before READ
abbrev pub type_function : List ℕ → Style → Option NameId
type_function name style =
    option_and_then (λ id. if stands_before_read id style.commands then Some id else None) (id_of name style.names)

-- the function of the type's name, else `default.type`, else `skip$`
abbrev pub target_of : List ℕ → Style → TypeTarget
target_of entry_type style =
    option_map_or FunctionTarget (type_function entry_type style)
    (option_map_or Default (type_function (codes "default.type") style) Skip)
