-- Values as the machine holds them (docs/MACHINE.md, "How it is run").
use Rattle.std.specs.Prelude.{ℕ, ◌+◌, ◌≤◌, List, [], ◌∷◌, Option, None, Some, drop, take}
use Rattle.bst_meaning.specs.declared.value.Value.{Value}
use Rattle.bst_meaning.specs.declared.value.Value.TheVariants.{Int, Str, Missing, Func}
use Rattle.bst_step.specs.declared.held.Operand.{Operand}
use Rattle.bst_step.specs.declared.held.Operand.TheVariants as operand
use Rattle.bst_step.specs.declared.held.Held.{Held}
use Rattle.bst_step.specs.declared.held.Held.TheVariants as held

-- a value whose bytes are lent
abbrev pub value_of : Operand → Value
value_of (operand.Int n) = Int n
value_of (operand.Str bytes) = Str bytes.now
value_of (operand.Missing name) = Missing name
value_of (operand.Func target) = Func target

-- a value whose bytes are lent or stand in a pool
abbrev pub value_in : List ℕ → Held → Value
value_in pool (held.Int n) = Int n
value_in pool (held.Str bytes) = Str bytes.now
value_in pool held.Empty = Str []
value_in pool (held.Missing name) = Missing name
value_in pool (held.Func target) = Func target
value_in pool (held.Made start count) = Str (take count (drop start pool))

-- the bytes of a string that are lent
abbrev pub lent_of : Held → Option (List ℕ)
lent_of (held.Str bytes) = Some bytes.now
lent_of held.Empty = Some []
lent_of _ = None

-- where its bytes end in the pool
abbrev pub end_of : Held → ℕ
end_of (held.Made start count) = start + count
end_of _ = 0

-- the bytes of values end there at the latest
abbrev pub ValuesWithin : ℕ → List Held → Type 0
ValuesWithin end [] = Unit {0}
ValuesWithin end (value ∷ values) = (end_of value ≤ end) × ValuesWithin end values

-- of a string so many bytes from a place on
abbrev pub part_from : ℕ → ℕ → Value → Value
part_from from count (Str bytes) = Str (take count (drop from bytes))
part_from from count value = value
