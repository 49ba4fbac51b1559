-- Values in eight bytes each (docs/MACHINE.md, "How it is run").
use Rattle.std.specs.Prelude.{◌≡◌, ℕ, ◌<◌, ◌≤◌, pos, List, [], ◌∷◌, get_or, length, map}
use Rattle.bst_step.specs.declared.held.Held.{Held}
use Rattle.bst_step.specs.declared.held.Held.TheVariants as held
use Rattle.bst_step.specs.declared.packed_values.Packed.{Packed}
use Rattle.bst_step.specs.declared.packed_values.Packed.TheVariants as packed

-- the value that a packed one is, where those that take more stand beside it
abbrev pub unpacked : List Held → Packed → Held
unpacked others (packed.Int n) = held.Int n
unpacked others packed.Empty = held.Empty
unpacked others (packed.Made count start) = held.Made start count
unpacked others (packed.Other at) = get_or others at (held.Int (pos 0))

-- the value stands among so many others, if it takes more
abbrev pub IsAmong : ℕ → Packed → Type 0
IsAmong count (packed.Other at) = at < count
IsAmong count _ = Unit {0}

-- each of them does
abbrev pub AreAmong : ℕ → List Packed → Type 0
AreAmong count [] = Unit {0}
AreAmong count (value ∷ values) = IsAmong count value × AreAmong count values

-- the values that are packed, or all as they are once they stand so
abbrev pub values_in : List Packed → List Held → List Held → List Held
values_in packed others [] = map (unpacked others) packed
values_in packed others (value ∷ wide) = value ∷ wide

-- values that are packed, or stand as they are: as many, with room for all of them
pub record ArePacked (packed : List Packed) (others wide : List Held) (capacity : ℕ) : Type 0 where
  pub among : AreAmong (length others) packed
  pub many : length (values_in packed others wide) ≡ length packed
  pub room : length packed ≤ capacity
