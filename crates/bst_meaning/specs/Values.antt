-- The values of the machine (docs/MACHINE.md, "Values"), those of a style's run, and those that a variable may have.
use Rattle.std.specs.Prelude.{◌≡◌, ℕ, ◌<◌, ◌≤◌, true, length, Option, Some}
use Rattle.name_table.specs.declared.names.Kind.{Kind}
use Rattle.name_table.specs.declared.names.Kind.TheVariants.{Field, IntEntry, StrEntry, IntGlobal, StrGlobal}
use Rattle.name_table.specs.declared.style.Style.{Style}
use Rattle.name_table.specs.Numbers.{IsByteList, has_32_bits}
use Rattle.name_table.specs.Sound.{block_of}
use Rattle.bst_meaning.specs.declared.value.TheConstants.{ENTRY_SIZE, GLOBAL_SIZE}
use Rattle.bst_meaning.specs.declared.value.Target.{Target}
use Rattle.bst_meaning.specs.declared.value.Target.TheVariants.{Named, Block}
use Rattle.bst_meaning.specs.declared.value.Value.{Value}
use Rattle.bst_meaning.specs.declared.value.Value.TheVariants.{Int, Str, Missing, Func}
use Rattle.bst_meaning.specs.StyleParts.{kind_of}

-- a value of the machine: its integers have 32 bits, and its strings are of bytes
abbrev pub IsValue : Value → Type 0
IsValue (Int n) = has_32_bits n ≡ true
IsValue (Str bytes) = IsByteList bytes
IsValue _ = Unit {0}

-- what can be entered: a name of the style, or a body that is a block
abbrev pub IsTarget : Style → Target → Type 0
IsTarget style (Named name) = name.0 < length style.names
IsTarget style (Block body) = (number : ℕ) × (block_of body style.bodies ≡ Some (Some number))

-- what a value names is there: a missing value is a field's, and a function can be entered
abbrev pub IsThere : Style → Value → Type 0
IsThere style (Missing name) = kind_of style name ≡ Some Field
IsThere style (Func target) = IsTarget style target
IsThere style _ = Unit {0}

-- a value of the machine in a run of the style
abbrev pub IsValueOf : Style → Value → Type 0
IsValueOf style value = IsValue value × IsThere style value

-- a value of a variable: an integer of 32 bits, or a string of bytes that is no longer than the variable's size
abbrev pub IsOfKind : Option Kind → Value → Type 0
IsOfKind (Some IntEntry) (Int n) = has_32_bits n ≡ true
IsOfKind (Some IntGlobal) (Int n) = has_32_bits n ≡ true
IsOfKind (Some StrEntry) (Str bytes) = IsByteList bytes × (length bytes ≤ ENTRY_SIZE)
IsOfKind (Some StrGlobal) (Str bytes) = IsByteList bytes × (length bytes ≤ GLOBAL_SIZE)
IsOfKind _ _ = ⊥
