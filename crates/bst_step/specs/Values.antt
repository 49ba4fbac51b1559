-- What the machine holds: the literal stack, and the variables of the whole style and of the entries (docs/MACHINE.md, "How it is
-- run").
use Rattle.std.specs.Prelude.{◌≡◌, ℕ, ◌≤◌, List, [], ◌∷◌, ◌++◌, length, map, Option, None, Some}
use Rattle.name_table.specs.declared.names.NameId.{NameId}
use Rattle.bst_meaning.specs.declared.value.Value.{Value}
use Rattle.bst_meaning.specs.declared.value.Value.TheVariants.{Str}
use Rattle.bst_meaning.specs.Config as config
use Rattle.bst_meaning.specs.Machine.{with_entry_variable, with_variable}
use Rattle.bst_meaning.specs.Sorting.{string_of}
use Rattle.bst_step.specs.declared.held.Held.{Held}
use Rattle.bst_step.specs.declared.variables.Variable.{Variable}
use Rattle.bst_step.specs.Marks.{Marks, marks_in}
use Rattle.bst_step.specs.EntryStates.{EntriesWithin, EntryState, state_in}
use Rattle.bst_step.specs.Held.{ValuesWithin, part_from, value_in}
use Rattle.bst_step.specs.Variables.{VariablesWithin, variable_in}

-- the literal stack, its top first, with the room that it has, the variables of the whole style, and the entries with theirs; and the
-- marks of all of these
pub record Holding : Type 0 where
  pub stack : List Value
  pub room : ℕ
  pub globals : List config.Variable
  pub entries : List config.EntryState
  pub marks : Marks

-- what is held over a pool of bytes
abbrev pub holding_in : List ℕ → List Held → ℕ → List Variable → List EntryState → Holding
holding_in pool stack room globals entries = record {
  stack = map (value_in pool) stack;
  room = room;
  globals = map (variable_in pool) globals;
  entries = map (state_in pool) entries;
  marks = marks_in stack globals entries;
}

-- what is held stands in the pool, and what variables hold in its front
pub record IsHeld (pool : List ℕ) (kept : ℕ) (stack : List Held) (globals : List Variable) (entries : List EntryState) : Type 0 where
  pub on_stack : ValuesWithin (length pool) stack
  pub in_globals : VariablesWithin kept globals
  pub in_entries : EntriesWithin kept entries
  pub in_front : kept ≤ length pool

-- the variables are as they were
abbrev pub Kept : Holding → Holding → Type 0
Kept old new = (new.globals ≡ old.globals) × (new.entries ≡ old.entries)

-- a value is pushed, where there is one
abbrev pub with_pushed : Option Value → List Value → List Value
with_pushed None stack = stack
with_pushed (Some value) stack = value ∷ stack

-- the two topmost strings are joined, the lower one first
abbrev pub joined : List Value → List Value
joined (b ∷ a ∷ stack) = Str (string_of a ++ string_of b) ∷ stack
joined stack = stack

-- of a string on top so many bytes from a place on
abbrev pub cut : ℕ → ℕ → List Value → List Value
cut from count [] = []
cut from count (a ∷ stack) = part_from from count a ∷ stack

-- the top is taken off, and given to a variable of the whole style
abbrev pub given_globally : NameId → List Value → List config.Variable → List config.Variable
given_globally name [] globals = globals
given_globally name (value ∷ stack) globals = with_variable (record { name = name; value = value }) globals

-- the top is taken off, and given to a variable of the entry at a place
abbrev pub given_in_entry : NameId → Option ℕ → List Value → List config.EntryState → List config.EntryState
given_in_entry name at [] entries = entries
given_in_entry name at (value ∷ stack) entries = with_entry_variable (record { name = name; value = value }) at entries
