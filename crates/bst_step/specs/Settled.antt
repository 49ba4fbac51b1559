-- The strings that were made are brought to the front of their pool, one window of it after the other (docs/MACHINE.md, "How it is
-- run").
use Rattle.std.specs.Prelude.{◌≡◌, ℕ, ◌+◌, ◌<◌, ◌≤◌, ◌⊎◌, min, Bool, ◌&&◌, nat_le, nat_lt, if◌then◌else◌, List, [], ◌∷◌, ◌++◌, drop, length, map, take}
use Rattle.std.specs.List.{flat_map, sum_by}
use Rattle.bst_step.specs.declared.held.Held.{Held}
use Rattle.bst_step.specs.declared.held.Held.TheVariants as held
use Rattle.bst_step.specs.declared.renewal.Window.{Window}
use Rattle.bst_step.specs.Held.{ValuesWithin, value_in}
use Rattle.bst_step.specs.Marks.{mark_of}

-- what begins there begins in a window
abbrev pub begins_in : Window → ℕ → Bool
begins_in window start = nat_le window.from start && nat_lt start window.until

-- the bytes of a string that begins in a window
abbrev pub moved_bytes : Window → List ℕ → Held → List ℕ
moved_bytes window pool (held.Made start count) = if begins_in window start then take count (drop start pool) else []
moved_bytes window pool _ = []

-- how many these are
abbrev pub moved_count : Window → Held → ℕ
moved_count window (held.Made start count) = if begins_in window start then count else 0
moved_count window _ = 0

-- a string that begins in a window, with its bytes from a place on
abbrev pub settled : Window → ℕ → Held → Held
settled window at (held.Made start count) = if begins_in window start then held.Made at count else held.Made start count
settled window at value = value

-- the bytes of all strings among values that begin in a window
abbrev pub values_bytes : Window → List ℕ → List Held → List ℕ
values_bytes window pool values = flat_map (moved_bytes window pool) values

-- how many these are
abbrev pub values_count : Window → List Held → ℕ
values_count window values = sum_by (moved_count window) values

-- values with the bytes of these strings one after the other from a place on
abbrev pub values_settled : Window → ℕ → List Held → List Held
values_settled window at [] = []
values_settled window at (value ∷ values) = settled window at value ∷ values_settled window (at + moved_count window value) values

-- where a string begins that stands at a place or behind it, or another place that comes before that
abbrev pub next_behind : ℕ → ℕ → Held → ℕ
next_behind until other (held.Made start count) = if nat_le until start then min other start else other
next_behind until other _ = other

-- where the first of these strings begins
abbrev pub first_behind : ℕ → ℕ → List Held → ℕ
first_behind until other [] = other
first_behind until other (value ∷ values) = first_behind until (next_behind until other value) values

-- a string that was made ends at one place at the latest, or begins at another or behind it
abbrev pub Stands : ℕ → ℕ → Held → Type 0
Stands to from (held.Made start count) = (start + count ≤ to) ⊎ (from ≤ start)
Stands to from _ = Unit {0}

-- all strings among values do
abbrev pub ValuesStand : ℕ → ℕ → List Held → Type 0
ValuesStand to from [] = Unit {0}
ValuesStand to from (value ∷ values) = Stands to from value × ValuesStand to from values

-- a string that was made ends before a place
abbrev pub IsBefore : ℕ → Held → Type 0
IsBefore front (held.Made start count) = start + count < front
IsBefore front _ = Unit {0}

-- all strings among values do
abbrev pub AreBefore : ℕ → List Held → Type 0
AreBefore front [] = Unit {0}
AreBefore front (value ∷ values) = IsBefore front value × AreBefore front values

-- a window begins at a place or behind it, and doesn't end before it begins
abbrev pub BeginsBehind : ℕ → Window → Type 0
BeginsBehind front window = (front ≤ window.from) × (window.from ≤ window.until)

-- the strings of two lists of values stand in the finished part of a pool, which ends at one place, or are to come, from another on
pub record AreParted (to from : ℕ) (pool : List ℕ) (globals own : List Held) : Type 0 where
  pub here : to ≤ length pool
  pub globals_stand : ValuesStand to from globals
  pub own_stand : ValuesStand to from own

-- these are the bytes of their strings that begin in a window, and the next string that is to come begins there
pub record IsGathered (window : Window) (next : ℕ) (pool moved : List ℕ) (globals own : List Held) : Type 0 where
  pub until : window.until ≤ 18446744073709551615
  pub globals_within : ValuesWithin (length pool) globals
  pub own_within : ValuesWithin (length pool) own
  pub parted : AreParted window.to window.from pool globals own
  pub bytes : moved ≡ values_bytes window pool globals ++ values_bytes window pool own
  pub first : next ≡ first_behind window.until (first_behind window.until 18446744073709551615 globals) own

-- a pool with these bytes from a place on
abbrev pub put_over : ℕ → List ℕ → List ℕ → List ℕ
put_over to bytes pool = take to pool ++ (bytes ++ drop (to + length bytes) pool)

-- values whose strings stand elsewhere, in another pool, and are seen as they were
pub record IsRenewed (pool : List ℕ) (values : List Held) (fresh : List ℕ) (later : List Held) : Type 0 where
  pub within : ValuesWithin (length fresh) later
  pub seen : map (value_in fresh) later ≡ map (value_in pool) values
  pub marks : map mark_of later ≡ map mark_of values
