-- Entries with their variables, as the machine's definition has them (docs/MACHINE.md, "How it is run").
use Rattle.std.specs.Prelude.{◌≡◌, ℕ, zero, suc, ◌+◌, ◌*◌, List, [], ◌∷◌, ◌++◌, drop, get_or, length, map, slice_get, slice_set}
use Rattle.std.specs.List.{range_with_len}
use Rattle.std.specs.List.Sorted.{IsPermutation}
use Rattle.std.specs.Option.{option_map_or}
use Rattle.name_table.specs.declared.names.NameId.{NameId}
use Rattle.bst_meaning.specs.Config as config
use Rattle.bst_meaning.specs.EntryLists.{Entry}
use Rattle.entry_store.specs.PackedEntries.{nothing}
use Rattle.bst_step.specs.declared.held.Held.{Held}
use Rattle.bst_step.specs.declared.variables.Variable.{Variable}
use Rattle.bst_step.specs.Variables.{VariablesWithin, named, variable_in, with_held}

-- an entry with its variables, and its position in the list with which the run opened
pub record EntryState : Type 0 where
  pub entry : Entry
  pub variables : List Variable
  pub position : ℕ

-- the variables of these names for a place, where the values of one place after the other stand in a list
abbrev pub variables_at : List NameId → List Held → ℕ → List Variable
variables_at names values place = named names (drop (place * length names) values)

-- the entry at a place of a list, with its variables
abbrev pub state_at : List NameId → List Held → List Entry → ℕ → EntryState
state_at names values entries place =
    record { entry = get_or entries place nothing; variables = variables_at names values place; position = place }

-- the entries at these places of a list
abbrev pub states_at : List NameId → List Held → List Entry → List ℕ → List EntryState
states_at names values entries rows = map (state_at names values entries) rows

-- the places of all entries of a list, in any order, and of the values so many for each entry
pub record IsTable (count : ℕ) (values : List Held) (entries : List Entry) (rows : List ℕ) : Type 0 where
  pub permuted : IsPermutation (range_with_len 0 (length entries)) rows
  pub many : length values ≡ length entries * count

-- these values so many times
abbrev pub repeated : {A : Type 0} → ℕ → List A → List A
repeated zero values = []
repeated (suc n) values = values ++ repeated n values

-- the entries of a list from a position on, each with the same variables
abbrev pub states_from : List Variable → ℕ → List Entry → List EntryState
states_from variables at [] = []
states_from variables at (entry ∷ entries) =
    record { entry = entry; variables = variables; position = at } ∷ states_from variables (at + 1) entries

-- an entry with its variables, whose bytes may stand in a pool
abbrev pub state_in : List ℕ → EntryState → config.EntryState
state_in pool e = record { entry = e.entry; variables = map (variable_in pool) e.variables; position = e.position }

-- entries of which one has a variable that holds another value
abbrev pub with_held_in : Variable → ℕ → List EntryState → List EntryState
with_held_in new at entries =
    option_map_or (λ e. slice_set entries at (record e { variables = with_held new e.variables })) (slice_get entries at) entries

-- the bytes of what variables of entries hold end there at the latest
abbrev pub EntriesWithin : ℕ → List EntryState → Type 0
EntriesWithin end [] = Unit {0}
EntriesWithin end (entry ∷ entries) = VariablesWithin end entry.variables × EntriesWithin end entries
