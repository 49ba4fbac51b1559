-- When a definition of a name is refused (docs/LANGUAGE.md, "Names").
use Rattle.std.specs.Prelude.{◌≡◌, ℕ, ◌<◌, List, None, Some, length}
use Rattle.name_table.specs.declared.names.Kind.{Kind}
use Rattle.name_table.specs.declared.names.DefineFault.{DefineFault}
use Rattle.name_table.specs.declared.names.DefineFault.TheVariants.{AlreadyDefined, TooMany, NoMemory}
use Rattle.name_table.specs.declared.names.TheConstants.{MOST_NAMES}
use Rattle.name_table.specs.Names.{id_of}

-- the name is there, or the names are as many as they may be; memory is asked for only where neither holds
abbrev pub IsCause : List ℕ → List (List ℕ × Kind) → DefineFault → Type 0
IsCause name names (AlreadyDefined id) = id_of name names ≡ Some id
IsCause name names TooMany = (id_of name names ≡ None) × (length names ≡ MOST_NAMES)
IsCause name names NoMemory = (id_of name names ≡ None) × (length names < MOST_NAMES)
